-- The words of compiled code pass run's check, and are read as the lines that they were written for.
use mathlib.Core.Path.{◌≡◌, refl, ap}
use mathlib.Core.Bool.{◌&&◌}
use Rattle.std.specs.Prelude.{None}
use mathlib.Core.List.{List, [], ◌∷◌, map}
use Prim.Native.Nat.{ℕ, zero, suc, ◌<◌}
use native.Mathlib.Omega.{arith}
use lib.Dec.{T}
use lib.ListN.{length, get_or}
use Rattle.word.proofs.TestLaws.{both}
use Rattle.code.specs.Words.{has_kind, cells_fit, bad_word}
use Rattle.numbers.specs.declared.Object.{Object}
use Rattle.numbers.specs.declared.Raw.{Raw}
use Rattle.code.specs.declared.Instruction.{Instruction}
use Rattle.code.specs.declared.Instruction.TheVariants.{Load, Store, StoreConst, Decode, Encode, Create, AnalyzeTuple, CreateTuple, Opposite, KeyOf, Match, Encrypt, Decrypt, Sign, Verify, Hash}
use Rattle.code.specs.GoodWords.{GoodWord}
use Rattle.code.proofs.KindLaws.{object_below, cells_below}
use Rattle.code.proofs.WordLaws.{FieldsFit, word_read, no_bad_word_iff}
use Rattle.theory.specs.Machine.{Line}
use Rattle.calls.specs.Compile.{code_words}
use Rattle.calls.specs.Run.{lines_from, lines_of}
use Rattle.theory.specs.Bounds.{InRange, AllInRange}

module _ (kind : ℕ → ℕ) where
  low : (v : Object) (kinds : List ℕ) → T (has_kind kind v kinds) → v.0 < 256
  low v kinds has = omega (arith, object_below kind v kinds has)

  tuple_low : (t : Object) (b : Raw) (n : ℕ) → T (has_kind kind t (10 ∷ []) && cells_fit b n) → (t.0 < 256) × (n < 8)
  tuple_low t b n has =
      let (k, c) = (both (has_kind kind t (10 ∷ [])) (cells_fit b n)).0 has in
      (low t (10 ∷ []) k, omega (arith, cells_below b n c))

  -- an instruction in range has room in a word's fields
  pub fields_fit : (i : Instruction) → InRange kind i → FieldsFit i
  fields_fit (Load r) f = record { a = omega (arith, f.cells); b = omega arith; n = omega arith }
  fields_fit (Store r) f = record { a = omega (arith, f.cells); b = omega arith; n = omega arith }
  fields_fit (StoreConst c b) f = record { a = low c _ f.operands; b = f.cells; n = omega arith }
  fields_fit (Decode v) f = record { a = low v _ f.operands; b = omega arith; n = omega arith }
  fields_fit (Encode v) f = record { a = low v _ f.operands; b = omega arith; n = omega arith }
  fields_fit (Create v) f = record { a = low v _ f.operands; b = omega arith; n = omega arith }
  fields_fit (AnalyzeTuple t b n) f = let l = tuple_low t b n f.operands in record { a = l.0; b = omega (arith, f.cells.0); n = l.1 }
  fields_fit (CreateTuple t b n) f = let l = tuple_low t b n f.operands in record { a = l.0; b = omega (arith, f.cells.0); n = l.1 }
  fields_fit (Opposite K k) f =
      let (p, q) = (both (has_kind kind K (5 ∷ [])) (has_kind kind k (4 ∷ []))).0 f.operands in
      record { a = low K (5 ∷ []) p; b = low k (4 ∷ []) q; n = omega arith }
  fields_fit KeyOf f = record { a = omega arith; b = omega arith; n = omega arith }
  fields_fit (Match r) f = record { a = omega (arith, f.cells); b = omega arith; n = omega arith }
  fields_fit (Encrypt v) f = record { a = low v _ f.operands; b = omega arith; n = omega arith }
  fields_fit (Decrypt v) f = record { a = low v _ f.operands; b = omega arith; n = omega arith }
  fields_fit (Sign v) f = record { a = low v _ f.operands; b = omega arith; n = omega arith }
  fields_fit (Verify v r) f = record { a = low v _ f.operands; b = omega (arith, f.cells); n = omega arith }
  fields_fit (Hash h) f = record { a = low h _ f.operands; b = omega arith; n = omega arith }

  good_words : (lines : List Line) → AllInRange kind lines → (i : ℕ) → i < length (code_words lines) → GoodWord kind (get_or (code_words lines) i 0)
  good_words [] h i l = absurd (omega arith)
  good_words (x ∷ lines) h zero l =
      record { instruction = x.instruction; says = word_read x.instruction (fields_fit x.instruction h.0); own = refl; operands = h.0.operands }
  good_words (x ∷ lines) h (suc i) l = good_words lines h.1 i (omega arith)

  -- run's check 9 passes
  pub compiled_words_good : (lines : List Line) → AllInRange kind lines → bad_word kind (code_words lines) ≡ None
  compiled_words_good lines h = (no_bad_word_iff kind (code_words lines)).1 (good_words lines h)

  -- and the words are the same instructions again
  read_lines : (place : ℕ) (lines : List Line) → AllInRange kind lines → map (λ l. l.instruction) (lines_from place (code_words lines)) ≡ map (λ l. l.instruction) lines
  unfolding lines_from
  read_lines place [] h = refl
  read_lines place (x ∷ lines) h =
      rw (word_read x.instruction (fields_fit x.instruction h.0)) (ap (λ is. x.instruction ∷ is) (read_lines (suc place) lines h.1))

  pub compiled_words_read : (lines : List Line) → AllInRange kind lines → map (λ l. l.instruction) (lines_of (code_words lines)) ≡ map (λ l. l.instruction) lines
  compiled_words_read lines h = read_lines zero lines h
