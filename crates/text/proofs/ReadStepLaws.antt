-- A number and a line that are read, one way out of the code after another.
use Prim.Native.Nat.{ℕ, ◌+◌, ◌*◌, ◌-◌, ◌<◌, ◌≤◌}
use mathlib.Core.Path.{◌≡◌, sym, ◌∙◌}
use mathlib.Core.Bool.{Bool, true, false, not}
use Rattle.std.specs.Prelude.{Option, None, Some}
use mathlib.Core.List.{List}
use native.Mathlib.Numerals.{add-one}
use native.Mathlib.Omega.{arith}
use borrow.Author.Tests.{le-leb, lt-leb, eq-eqb, ne_eqb, not-true, not-false}
use lib.ListN.{length, get_or, drop, drop_of_length-le}
use lib.Seq.{drop-cons}
use Rattle.text.specs.Lines.{space, line_feed}
use Rattle.text.specs.Readers.{TextFront, front, is_digit, digits_on, read_number, read_line}
use Rattle.text.specs.ReadAnswers.{numbers_of, ReadsNumber, ReadsLine}
use Rattle.text.proofs.ReadLaws.{digit_bounds}
use Rattle.text.specs.declared.reading.Numbers.{Numbers}

none_read : (text : List ℕ) {read : Option (TextFront ℕ)} → read ≡ None → ReadsNumber text read None
none_read text e = record { says = sym e; inside = omega arith }

module _ {is : Bool} (byte : ℕ) (says : is ≡ is_digit byte) where
  a_digit : not is ≡ false → is_digit byte ≡ true
  a_digit holds = sym says ∙ not-false is holds

  not_a_digit : not is ≡ true → is_digit byte ≡ false
  not_a_digit fails = sym says ∙ not-true is fails

  pub digit_low : not is ≡ false → 48 ≤ byte
  digit_low holds = (digit_bounds byte (a_digit holds)).0

  pub digit_high : not is ≡ false → byte ≤ 57
  digit_high holds = (digit_bounds byte (a_digit holds)).1

pub ruleset digit-told = (digit_low, digit_high)

-- what is left behind a value gives the answer
pub record NumberLeft (most end at : ℕ) (text : List ℕ) (value place : ℕ) : Type 0 where
  pub left : read_number most end (drop at text) ≡ digits_on most end value (drop place text)

module _ (most end at : ℕ) (text : List ℕ) where
  pub no_bytes : length text ≤ at → ReadsNumber text (read_number most end (drop at text)) None
  unfolding read_number
  no_bytes past = none_read text (rw (drop_of_length-le text {i = at} past))

  pub no_digit : {is : Bool} → at < length text → is ≡ is_digit (get_or text at 0) → not is ≡ true → ReadsNumber text (read_number most end (drop at text)) None
  unfolding read_number
  no_digit inside says fails = none_read text (rw (drop-cons text at 0 inside, not_a_digit (get_or text at 0) says fails, read_number))

  pub one_digit : {is : Bool} (value : ℕ) → at < length text → is ≡ is_digit (get_or text at 0) → not is ≡ false → value + 48 ≡ get_or text at 0 → NumberLeft most end at text value (at + 1)
  unfolding read_number
  one_digit value inside says holds worth =
      let v : get_or text at 0 - 48 ≡ value = omega (arith, worth) in
      record { left = rw (drop-cons text at 0 inside, a_digit (get_or text at 0) says holds, v, add-one, read_number) }

  module _ (value place : ℕ) (so_far : NumberLeft most end at text value place) where
    pub number_unended : length text ≤ place → ReadsNumber text (read_number most end (drop at text)) None
    unfolding digits_on
    number_unended past = none_read text (so_far.left ∙ rw (drop_of_length-le text {i = place} past))

    pub too_large : place < length text → most < value → ReadsNumber text (read_number most end (drop at text)) None
    unfolding digits_on
    too_large inside large = none_read text (so_far.left ∙ rw (drop-cons text place 0 inside, lt-leb value most large, digits_on))

    pub number_ended : place < length text → value ≤ most → get_or text place 0 ≡ end → ReadsNumber text (read_number most end (drop at text)) (Some (value, place + 1))
    unfolding digits_on
    number_ended inside fits ends = record {
      says = sym (so_far.left ∙ rw (drop-cons text place 0 inside, le-leb value most fits, eq-eqb (get_or text place 0) end ends, add-one, digits_on));
      inside = omega arith;
    }

    pub other_byte : {is : Bool} → place < length text → value ≤ most → (get_or text place 0 ≡ end → ⊥) → is ≡ is_digit (get_or text place 0) → not is ≡ true
        → ReadsNumber text (read_number most end (drop at text)) None
    unfolding digits_on
    other_byte inside fits on says fails =
        none_read text
        (so_far.left ∙ rw (drop-cons text place 0 inside, le-leb value most fits, ne_eqb (get_or text place 0) end on, not_a_digit (get_or text place 0) says fails, digits_on))

    pub leading_zero : {is : Bool} → place < length text → value ≤ most → (get_or text place 0 ≡ end → ⊥) → is ≡ is_digit (get_or text place 0) → not is ≡ false → value ≡ 0
        → ReadsNumber text (read_number most end (drop at text)) None
    unfolding digits_on
    leading_zero inside fits on says holds zeroes =
        none_read text
        (so_far.left
        ∙ rw (drop-cons text place 0 inside, le-leb value most fits, ne_eqb (get_or text place 0) end on, a_digit (get_or text place 0) says holds, eq-eqb value 0 zeroes, digits_on))

    pub digit_read : {is : Bool} (worth : ℕ) → place < length text → value ≤ most → (get_or text place 0 ≡ end → ⊥) → is ≡ is_digit (get_or text place 0) → not is ≡ false → (value ≡ 0 → ⊥)
        → worth + 48 ≡ get_or text place 0 → NumberLeft most end at text (value * 10 + worth) (place + 1)
    unfolding digits_on
    digit_read worth inside fits on says holds nonzero is =
        let byte = get_or text place 0 in
        let v : byte - 48 ≡ worth = omega (arith, is) in
        record {
          left = so_far.left
              ∙ rw (drop-cons text place 0 inside, le-leb value most fits, ne_eqb byte end on, a_digit byte says holds, ne_eqb value 0 nonzero, v, add-one, digits_on);
        }

pub ruleset number-steps = (no_bytes, no_digit, one_digit, number_unended, too_large, number_ended, other_byte, leading_zero, digit_read, arith)

-- what a number's answer says
module _ {text : List ℕ} {read : Option (TextFront ℕ)} {answer : Option (ℕ × ℕ)} (reads : ReadsNumber text read answer) where
  pub is_read : {value next : ℕ} → answer ≡ Some (value, next) → read ≡ Some (front value (drop next text))
  is_read e = rw e at (sym reads.says)

  pub not_read : answer ≡ None → read ≡ None
  not_read e = rw e at (sym reads.says)

-- a line, number after number
module _ (text : List ℕ) (most : Numbers) (at : ℕ) where
  abbrev Answers : Option (Numbers × ℕ) → Type 0
  Answers answer = ReadsLine text (read_line (numbers_of most) (drop at text)) answer

  no_line : read_line (numbers_of most) (drop at text) ≡ None → Answers None
  no_line e = record { says = sym e; inside = omega arith }

  pub stop_first : read_number most.0 space (drop at text) ≡ None → Answers None
  unfolding read_line
  stop_first e = no_line (rw e)

  module _ {first : ℕ} {t₁ : List ℕ} (e₀ : read_number most.0 space (drop at text) ≡ Some (front first t₁)) where
    pub stop_second : read_number most.1 space t₁ ≡ None → Answers None
    unfolding read_line
    stop_second e = no_line (rw (e₀, e))

    module _ {second : ℕ} {t₂ : List ℕ} (e₁ : read_number most.1 space t₁ ≡ Some (front second t₂)) where
      pub stop_third : read_number most.2 space t₂ ≡ None → Answers None
      unfolding read_line
      stop_third e = no_line (rw (e₀, e₁, e))

      module _ {third : ℕ} {t₃ : List ℕ} (e₂ : read_number most.2 space t₂ ≡ Some (front third t₃)) where
        pub stop_fourth : read_number most.3 space t₃ ≡ None → Answers None
        unfolding read_line
        stop_fourth e = no_line (rw (e₀, e₁, e₂, e))

        module _ {fourth : ℕ} {t₄ : List ℕ} (e₃ : read_number most.3 space t₃ ≡ Some (front fourth t₄)) where
          pub stop_fifth : read_number most.4 line_feed t₄ ≡ None → Answers None
          unfolding read_line
          stop_fifth e = no_line (rw (e₀, e₁, e₂, e₃, e))

          pub whole_line : {fifth next : ℕ} → read_number most.4 line_feed t₄ ≡ Some (front fifth (drop next text)) → next ≤ length text
              → Answers (Some (record { 0 = first; 1 = second; 2 = third; 3 = fourth; 4 = fifth }, next))
          unfolding read_line
          whole_line e inside = record { says = sym (rw (e₀, e₁, e₂, e₃, e)); inside = inside }
