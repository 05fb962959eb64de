-- What the code that reads and writes words meets, way by way.
use Prim.Native.Nat.{ℕ, zero, suc, ◌+◌, ◌/◌, ◌%◌, ◌<◌, ◌≤◌}
use mathlib.Core.Bool.{Bool, true, false, not}
use mathlib.Core.Path.{◌≡◌, ◌∙◌, sym, ap, refl}
use Rattle.std.specs.Prelude.{Option, None, Some}
use mathlib.Core.List.{List}
use native.Mathlib.Omega.{arith}
use borrow.Author.Tests.{eq-eqb, ne_eqb}
use lib.Dec.{eqb}
use lib.ListN.{length, get_or, get_or-eq_default}
use Rattle.word.specs.Fields.{join}
use Rattle.word.proofs.ArmLaws.{Past, past}
use Rattle.word.proofs.ScanLaws.{Left, scan_hit, scan_miss, scan_end}
use Rattle.code.specs.Instruction.{word_widths, fields_of, word_of, instruction_by, instruction_of}
use Rattle.code.specs.Words.{operands_fit, good_word, bad_word}
use Rattle.code.specs.declared.Instruction.{Instruction}

-- the word of an instruction that is known
pub spells_as : (instruction same : Instruction) (word : ℕ) → instruction ≡ same → word ≡ join word_widths (fields_of same) → word ≡ word_of instruction
unfolding word_of
spells_as instruction same word is spells = spells ∙ sym (ap word_of is)

-- the operation is the top of a word
by_operation : (word operation : ℕ) → word < 4294967296 → word / 134217728 ≡ operation
    → instruction_of word ≡ instruction_by operation (word / 524288 % 256) (word / 2048 % 256) (word / 256 % 8)
unfolding instruction_of
by_operation word operation fits is =
    let top : word / 134217728 % 32 ≡ operation = omega arith in
    ap (λ (k : ℕ). instruction_by k (word / 524288 % 256) (word / 2048 % 256) (word / 256 % 8)) top

pub reads_as : (word operation : ℕ) (instruction : Instruction) → word / 134217728 ≡ operation → word < 4294967296
    → instruction_by operation (word / 524288 % 256) (word / 2048 % 256) (word / 256 % 8) ≡ Some instruction
    → Some instruction ≡ (instruction_of word)
reads_as word operation instruction is fits says = rw (by_operation word operation fits is, says)

-- no arm of the match
says_none : (operation a b n : ℕ) → Past 2 16 operation → instruction_by operation a b n ≡ None
says_none zero a b n others = refl
says_none (suc zero) a b n others = refl
says_none (suc (suc operation)) a b n others =
    let far : 18 ≤ suc (suc operation) = past 2 16 (suc (suc operation)) others (omega arith) in
    rw get_or-eq_default

pub reads_none : (word : ℕ) → word < 4294967296 → Past 2 16 (word / 134217728) → None ≡ (instruction_of word)
reads_none word fits others = rw (by_operation word (word / 134217728) fits refl, says_none _ _ _ _ others)

-- what reading a word told
pub read_some : (said : Option Instruction) (instruction : Instruction) → Some instruction ≡ said → said ≡ Some instruction
read_some None instruction e = let z : ◌≡◌ {A = ℕ} 0 1 = cc in absurd (omega arith)
read_some (Some other) instruction e = cc

read_none : (said : Option Instruction) → None ≡ said → said ≡ None
read_none None e = refl
read_none (Some other) e = let z : ◌≡◌ {A = ℕ} 0 1 = cc in absurd (omega arith)

module _ (kind : ℕ → ℕ) (word : ℕ) (read : Option Instruction) (is : read ≡ (instruction_of word)) where
  pub good_own : (instruction : Instruction) (spelt : ℕ) (answer : Bool) → read ≡ Some instruction → spelt ≡ word_of instruction → spelt ≡ word
      → answer ≡ operands_fit kind instruction → answer ≡ good_word kind word
  unfolding good_word
  good_own instruction spelt answer says spells own fits =
      rw (read_some (instruction_of word) instruction (sym says ∙ is), eq-eqb (word_of instruction) word (sym spells ∙ own)) fits

  pub good_other : (instruction : Instruction) (spelt : ℕ) → read ≡ Some instruction → spelt ≡ word_of instruction → (spelt ≡ word → ⊥)
      → eqb spelt word ≡ good_word kind word
  unfolding good_word
  good_other instruction spelt says spells differs =
      rw (read_some (instruction_of word) instruction (sym says ∙ is), ne_eqb (word_of instruction) word (λ own. differs (spells ∙ own))) (ne_eqb spelt word differs)

  pub good_never : read ≡ None → false ≡ good_word kind word
  unfolding good_word
  good_never says = rw (read_none (instruction_of word) (sym says ∙ is))

pub ruleset judging = (good_own, good_other, good_never)

-- the test for a bad word
abbrev pub bad : (ℕ → ℕ) → ℕ → ℕ → Bool
bad kind at word = not (good_word kind word)

-- every word before a place is good
pub record GoodBefore (kind : ℕ → ℕ) (code : List ℕ) (place : ℕ) : Type 0 where
  pub left : Left (bad kind) code place

module _ (kind : ℕ → ℕ) (code : List ℕ) where
  pub good_yet : GoodBefore kind code 0
  good_yet = record { left = refl }

  module _ (place : ℕ) (so_far : GoodBefore kind code place) where
    pub good_more : (answer : Bool) → place < length code → answer ≡ good_word kind (get_or code place 0) → not answer ≡ false → GoodBefore kind code (place + 1)
    good_more answer more is good = record { left = scan_miss (bad kind) code 0 place so_far.left more (rw (← is) good) }

    pub bad_here : (answer : Bool) → place < length code → answer ≡ good_word kind (get_or code place 0) → not answer ≡ true
        → Some place ≡ (bad_word kind code)
    unfolding bad_word
    bad_here answer more is fails = (sym (scan_hit (bad kind) code 0 place so_far.left more (rw (← is) fails)))

    pub bad_nowhere : length code ≤ place → None ≡ (bad_word kind code)
    unfolding bad_word
    bad_nowhere end = (sym (scan_end (bad kind) code 0 place so_far.left end))

pub ruleset checking = (good_yet, good_more, bad_here, bad_nowhere)
