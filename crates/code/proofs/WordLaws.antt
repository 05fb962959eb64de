-- A word and its instruction, good words, and the lowest bad one.
use Prim.Native.Nat.{ℕ, ◌/◌, ◌%◌, ◌<◌}
use mathlib.Core.Path.{◌≡◌, refl}
use mathlib.Core.Logic.Iff
use mathlib.Core.Logic.{◌↔◌}
use mathlib.Core.Bool.{not}
use Rattle.std.specs.Prelude.{Option, None, Some}
use mathlib.Core.List.{List, [], ◌∷◌}
use native.Mathlib.Omega.{arith}
use borrow.Author.Tests.{eq-eqb}
use lib.Dec.{T, eqb, eqb→eq}
use lib.ListN.{length, get_or}
use Rattle.word.specs.Fields.{join, at}
use Rattle.word.proofs.TestLaws.{both, twice}
use Rattle.word.proofs.LowestLaws.{none_bad, lowest_bad}
use Rattle.code.specs.Instruction.{word_widths, fields_of, word_of, instruction_by, instruction_of}
use Rattle.code.specs.Words.{operands_fit, word_fits, good_word, bad_word}
use Rattle.code.specs.GoodWords.{LowestBadWord, AllGoodWords}
pub use Rattle.code.specs.GoodWords.{GoodWord}
use Rattle.code.specs.declared.Instruction.{Instruction}
use Rattle.code.specs.declared.Instruction.TheVariants.{Load, Store, StoreConst, Decode, Encode, Create, AnalyzeTuple, CreateTuple, Opposite, KeyOf, Match, Encrypt, Decrypt, Sign, Verify, Hash}

-- A, B and n have room in their fields
pub record FieldsFit (instruction : Instruction) : Type 0 where
  pub a : at 1 (fields_of instruction) < 256
  pub b : at 2 (fields_of instruction) < 256
  pub n : at 3 (fields_of instruction) < 8

apart : (operation a b n : ℕ) → operation < 32 → a < 256 → b < 256 → n < 8
    → instruction_of (join word_widths (operation ∷ a ∷ b ∷ n ∷ 0 ∷ [])) ≡ instruction_by operation a b n
unfolding instruction_of
apart operation a b n fits-operation fits-a fits-b fits-n =
    let word : ℕ = join word_widths (operation ∷ a ∷ b ∷ n ∷ 0 ∷ []) in
    let is_operation : word / 134217728 % 32 ≡ operation = omega arith in
    let is_a : word / 524288 % 256 ≡ a = omega arith in
    let is_b : word / 2048 % 256 ≡ b = omega arith in
    let is_n : word / 256 % 8 ≡ n = omega arith in
    rw (is_operation, is_a, is_b, is_n)

-- the instruction of its own word
pub word_read : (instruction : Instruction) → FieldsFit instruction → instruction_of (word_of instruction) ≡ Some instruction
unfolding word_of
word_read (Load r) fits = apart 2 r.0 0 0 (omega arith) fits.a fits.b fits.n
word_read (Store r) fits = apart 3 r.0 0 0 (omega arith) fits.a fits.b fits.n
word_read (StoreConst c byte) fits = apart 4 c.0 byte 0 (omega arith) fits.a fits.b fits.n
word_read (Decode v) fits = apart 5 v.0 0 0 (omega arith) fits.a fits.b fits.n
word_read (Encode v) fits = apart 6 v.0 0 0 (omega arith) fits.a fits.b fits.n
word_read (Create v) fits = apart 7 v.0 0 0 (omega arith) fits.a fits.b fits.n
word_read (AnalyzeTuple t first n) fits = apart 8 t.0 first.0 n (omega arith) fits.a fits.b fits.n
word_read (CreateTuple t first n) fits = apart 9 t.0 first.0 n (omega arith) fits.a fits.b fits.n
word_read (Opposite private public) fits = apart 10 private.0 public.0 0 (omega arith) fits.a fits.b fits.n
word_read KeyOf fits = apart 11 0 0 0 (omega arith) fits.a fits.b fits.n
word_read (Match r) fits = apart 12 r.0 0 0 (omega arith) fits.a fits.b fits.n
word_read (Encrypt v) fits = apart 13 v.0 0 0 (omega arith) fits.a fits.b fits.n
word_read (Decrypt v) fits = apart 14 v.0 0 0 (omega arith) fits.a fits.b fits.n
word_read (Sign v) fits = apart 15 v.0 0 0 (omega arith) fits.a fits.b fits.n
word_read (Verify v r) fits = apart 16 v.0 r.0 0 (omega arith) fits.a fits.b fits.n
word_read (Hash h) fits = apart 17 h.0 0 0 (omega arith) fits.a fits.b fits.n

pub good_iff : (kind : ℕ → ℕ) (word : ℕ) → T (good_word kind word) ↔ GoodWord kind word
unfolding good_word
good_iff kind word = (is_good (instruction_of word) refl, tests_good)
  where
    is_good : (said : Option Instruction) → instruction_of word ≡ said → T (word_fits kind word said) → GoodWord kind word
    is_good None e good = absurd good
    is_good (Some instruction) e good =
        let parts = (both (eqb (word_of instruction) word) (operands_fit kind instruction)).0 good in
        record { instruction = instruction; says = e; own = eqb→eq (word_of instruction) word parts.0; operands = parts.1 }

    tests_good : GoodWord kind word → T (word_fits kind word (instruction_of word))
    tests_good good = rw (good.says, eq-eqb (word_of good.instruction) word good.own) good.operands

-- so the word of an instruction with good operands is good
pub own_word_good : (kind : ℕ → ℕ) (instruction : Instruction) → FieldsFit instruction → T (operands_fit kind instruction)
    → T (good_word kind (word_of instruction))
own_word_good kind instruction fits operands =
    (good_iff kind (word_of instruction)).1
    (record { instruction = instruction; says = word_read instruction fits; own = refl; operands = operands })

module _ (kind : ℕ → ℕ) (code : List ℕ) where
  not_bad : (place : ℕ) → place < length code → T (not (not (good_word kind (get_or code place 0)))) ↔ GoodWord kind (get_or code place 0)
  not_bad place inside = Iff.trans (twice (good_word kind (get_or code place 0))) (good_iff kind (get_or code place 0))

  pub bad_word_iff : (place : ℕ) → (bad_word kind code ≡ Some place) ↔ LowestBadWord kind code place
  unfolding bad_word
  bad_word_iff = lowest_bad _ _ code 0 not_bad

  pub no_bad_word_iff : (bad_word kind code ≡ None) ↔ AllGoodWords kind code
  unfolding bad_word
  no_bad_word_iff = none_bad _ _ code 0 not_bad
