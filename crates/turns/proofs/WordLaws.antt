-- The words of a round: which of them is bad, and what no bad one leaves true.
use Rattle.std.specs.Prelude.{Some}
use mathlib.Core.Path.{◌≡◌, refl, sym, ap}
use mathlib.Core.Bool.{Bool, true, false, not}
use Rattle.std.specs.Prelude.{None}
use mathlib.Core.List.{List}
use Prim.Native.Nat.{ℕ, ◌+◌, ◌-◌, ◌<◌, ◌≤◌}
use native.Mathlib.Numerals.{add-one}
use native.Mathlib.Omega.{arith}
use borrow.Author.Tests.{eq-eqb, ne_eqb}
use lib.Dec.{eqb}
use lib.ListN.{length, get_or, take, drop}
use Rattle.word.proofs.ScanLaws.{Left, scan_hit, scan_miss, scan_end}
use Rattle.word.proofs.LowestLaws.{lowest_none}
use Rattle.code.specs.Words.{good_word, bad_word}
use Rattle.calls.specs.Frame.{input_word, output_word, middle, good_round_word, bad_round_word}
use Rattle.calls.proofs.FrameLaws.{middle_length, middle_at}

-- a word by its place
module _ (kind : ℕ → ℕ) (words place word : ℕ) where
  pub good_first : place ≡ 0 → eqb word input_word ≡ good_round_word kind words place word
  unfolding good_round_word
  good_first at = rw (eq-eqb place 0 at)

  module _ (later : place ≡ 0 → ⊥) where
    pub good_last : place + 1 ≡ words → eqb word output_word ≡ good_round_word kind words place word
    unfolding good_round_word
    good_last at = rw (ne_eqb place 0 later, ← add-one place, eq-eqb (place + 1) words at)

    pub good_between : (place + 1 ≡ words → ⊥) → good_word kind word ≡ good_round_word kind words place word
    unfolding good_round_word
    good_between before = rw (ne_eqb place 0 later, ← add-one place, ne_eqb (place + 1) words before)

-- the test for a bad word of a round
abbrev pub bad : (ℕ → ℕ) → ℕ → ℕ → ℕ → Bool
bad kind words place word = not (good_round_word kind words place word)

-- every word before a place is good
pub record GoodBefore (kind : ℕ → ℕ) (code : List ℕ) (place : ℕ) : Type 0 where
  pub left : Left (bad kind (length code)) code place

module _ (kind : ℕ → ℕ) (code : List ℕ) where
  pub good_yet : GoodBefore kind code 0
  good_yet = record { left = refl }

  module _ (place : ℕ) (so_far : GoodBefore kind code place) where
    pub good_more : (answer : Bool) → place < length code → answer ≡ good_round_word kind (length code) place (get_or code place 0) → not answer ≡ false → GoodBefore kind code (place + 1)
    good_more answer more is good = record { left = scan_miss (bad kind (length code)) code 0 place so_far.left more (rw (← is) good) }

    pub bad_here : (answer : Bool) → place < length code → answer ≡ good_round_word kind (length code) place (get_or code place 0) → not answer ≡ true
        → Some place ≡ (bad_round_word kind code)
    unfolding bad_round_word
    bad_here answer more is fails = (sym (scan_hit (bad kind (length code)) code 0 place so_far.left more (rw (← is) fails)))

    pub bad_nowhere : length code ≤ place → None ≡ (bad_round_word kind code)
    unfolding bad_round_word
    bad_nowhere end = (sym (scan_end (bad kind (length code)) code 0 place so_far.left end))

pub ruleset judging = (good_first, good_last, good_between)

pub ruleset checking = (good_yet, good_more, bad_here, bad_nowhere)

-- the words between INPUT and OUTPUT
pub middle_part : (code : List ℕ) → take (length code - 1 - 1) (drop 1 code) ≡ middle code
unfolding middle
middle_part code = let same : length code - 1 - 1 ≡ length code - 2 = omega arith in ap (λ n. take n (drop 1 code)) same

module _ (code : List ℕ) (two : 2 ≤ length code) where
  -- are good for run
  pub good_middle : (kind : ℕ → ℕ) → bad_round_word kind code ≡ None → bad_word kind (middle code) ≡ None
  unfolding bad_word bad_round_word
  good_middle kind e = (lowest_none (λ place word. not (good_word kind word)) 0 (middle code)).1 λ i inside.
      let within : 1 + i < length code = omega (arith, middle_length code two) in
      rw (middle_at code two i inside, good_between kind (length code) (1 + i) (get_or code (1 + i) 0) (λ z. omega arith) (λ z. omega (arith, middle_length code two)))
      ((lowest_none (bad kind (length code)) 0 code).0 e (1 + i) within)
