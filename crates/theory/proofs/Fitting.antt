-- What an instruction asks of kinds and numbers, so that a row can hold what it makes: it is part of what good code words are.
use mathlib.Core.Path.{◌≡◌, refl, subst}
use mathlib.Core.Logic.{inl, inr}
use Rattle.std.specs.Prelude.{Option, None, Some}
use mathlib.Core.List.{List, [], ◌∷◌}
use Prim.Native.Nat.{ℕ, ◌+◌, ◌<◌, ◌≤◌}
use native.Mathlib.Omega.{arith}
use lib.Dec.{T, eqb, leb, ltb}
use Rattle.word.specs.Fields.{split, at}
use Rattle.word.specs.Lowest.{one_of}
use Rattle.word.proofs.FieldLaws.{split_fits}
use Rattle.word.proofs.All.{All, all_get_d}
use Rattle.word.proofs.TestLaws.{both, at_most}
use Rattle.word.proofs.LowestLaws.{one_all}
use Rattle.code.specs.Instruction.{word_widths, word_of, instruction_by, instruction_of}
use Rattle.numbers.specs.Sorts.{as_object, as_raw}
use Rattle.code.specs.Words.{word_fits, good_word, has_kind, cells_fit, operands_fit}
use Rattle.numbers.specs.declared.Object.{Object}
use Rattle.code.specs.declared.Instruction.{Instruction}
use Rattle.code.specs.declared.Instruction.TheVariants.{Load, Store, StoreConst, Decode, Encode, Create, AnalyzeTuple, CreateTuple, Opposite, KeyOf, Match, Encrypt, Decrypt, Sign, Verify, Hash}
use Rattle.terms.specs.Table.{Encrypts, Signs}
use Rattle.theory.specs.World.{creatable}

abbrev pub Fits : (ℕ → ℕ) → Instruction → Type 0
Fits kind (StoreConst c b) = (kind c.0 ≡ 1) × (b < 256)
Fits kind (Create v) = T (creatable (kind v.0))
Fits kind (CreateTuple t b n) = (kind t.0 ≡ 10) × (n ≤ 4)
Fits kind (Opposite K k) = kind k.0 ≡ 4
Fits kind (Encrypt v) = Encrypts (kind v.0)
Fits kind (Sign v) = Signs (kind v.0)
Fits kind (Load r) = Unit {0}
Fits kind (Store r) = Unit {0}
Fits kind (Decode v) = Unit {0}
Fits kind (Encode v) = Unit {0}
Fits kind (AnalyzeTuple t b n) = Unit {0}
Fits kind KeyOf = Unit {0}
Fits kind (Match r) = Unit {0}
Fits kind (Decrypt v) = Unit {0}
Fits kind (Verify v r) = Unit {0}
Fits kind (Hash h) = Unit {0}

-- the byte of STORE CONST has 8 bits, and so has the cell of STORE
abbrev pub ByteFits : Instruction → Type 0
ByteFits (StoreConst c b) = b < 256
ByteFits (Create v) = Unit {0}
ByteFits (CreateTuple t b n) = Unit {0}
ByteFits (Opposite K k) = Unit {0}
ByteFits (Encrypt v) = Unit {0}
ByteFits (Sign v) = Unit {0}
ByteFits (Load r) = Unit {0}
ByteFits (Store r) = r.0 < 256
ByteFits (Decode v) = Unit {0}
ByteFits (Encode v) = Unit {0}
ByteFits (AnalyzeTuple t b n) = Unit {0}
ByteFits KeyOf = Unit {0}
ByteFits (Match r) = Unit {0}
ByteFits (Decrypt v) = Unit {0}
ByteFits (Verify v r) = Unit {0}
ByteFits (Hash h) = Unit {0}

module _ (kind : ℕ → ℕ) where
  kind_of : (P : ℕ → Type 0) (kinds : List ℕ) (v : Object) → All P kinds → T (has_kind kind v kinds) → P (kind v.0)
  kind_of P kinds v all has = one_all P kinds (kind v.0) all ((both (ltb v.0 64) (one_of kinds (kind v.0))).0 has).1

  pub fits : (i : Instruction) → T (operands_fit kind i) → ByteFits i → Fits kind i
  unfolding creatable
  fits (StoreConst c b) has byte = (kind_of (λ k. k ≡ 1) (1 ∷ []) c (refl, tt) has, byte)
  fits (Create v) has byte = ((both (ltb v.0 64) (one_of (2 ∷ 5 ∷ 6 ∷ []) (kind v.0))).0 has).1
  fits (CreateTuple t b n) has byte =
      let h = (both (has_kind kind t (10 ∷ [])) (cells_fit b n)).0 has in
      (kind_of (λ k. k ≡ 10) (10 ∷ []) t (refl, tt) h.0, (at_most n 4).0 ((both (leb n 4) (leb (b.0 + n) 256)).0 h.1).0)
  fits (Opposite K k) has byte = kind_of (λ n. n ≡ 4) (4 ∷ []) k (refl, tt) ((both (has_kind kind K (5 ∷ [])) (has_kind kind k (4 ∷ []))).0 has).1
  fits (Encrypt v) has byte = kind_of Encrypts (4 ∷ 6 ∷ []) v (inl refl, (inr refl, tt)) has
  fits (Sign v) has byte = kind_of Signs (5 ∷ 6 ∷ []) v (inl refl, (inr refl, tt)) has
  fits (Load r) has byte = tt
  fits (Store r) has byte = tt
  fits (Decode v) has byte = tt
  fits (Encode v) has byte = tt
  fits (AnalyzeTuple t b n) has byte = tt
  fits KeyOf has byte = tt
  fits (Match r) has byte = tt
  fits (Decrypt v) has byte = tt
  fits (Verify v r) has byte = tt
  fits (Hash h) has byte = tt

-- a byte that is read from a word has 8 bits
abbrev Decoded : Option Instruction → Type 0
Decoded (Some i) = ByteFits i
Decoded None = Unit {0}

decoded_by : (operation a b n : ℕ) → a < 256 → b < 256 → Decoded (instruction_by operation a b n)
decoded_by operation a b n cell byte =
    all_get_d Decoded
    (None ∷ None
    ∷ Some (Load (as_raw a)) ∷ Some (Store (as_raw a)) ∷ Some (StoreConst (as_object a) b)
    ∷ Some (Decode (as_object a)) ∷ Some (Encode (as_object a)) ∷ Some (Create (as_object a))
    ∷ Some (AnalyzeTuple (as_object a) (as_raw b) n) ∷ Some (CreateTuple (as_object a) (as_raw b) n)
    ∷ Some (Opposite (as_object a) (as_object b)) ∷ Some KeyOf ∷ Some (Match (as_raw a))
    ∷ Some (Encrypt (as_object a)) ∷ Some (Decrypt (as_object a)) ∷ Some (Sign (as_object a))
    ∷ Some (Verify (as_object a) (as_raw b)) ∷ Some (Hash (as_object a)) ∷ [])
    None (omega arith) tt operation

decoded : (word : ℕ) → Decoded (instruction_of word)
unfolding instruction_of
decoded word =
    let fields = split word_widths word in
    let fit = split_fits word_widths word in
    decoded_by (at 0 fields) (at 1 fields) (at 2 fields) (at 3 fields) fit.1.0 fit.1.1.0

-- so the instructions of good code words fit
pub good_word_fits : (kind : ℕ → ℕ) (word : ℕ) (i : Instruction) → instruction_of word ≡ Some i → T (good_word kind word)
    → T (operands_fit kind i) × ByteFits i
unfolding good_word
good_word_fits kind word i e good =
    (((both (eqb (word_of i) word) (operands_fit kind i)).0 (subst (λ o. T (word_fits kind word o)) e good)).1, subst Decoded e (decoded word))
