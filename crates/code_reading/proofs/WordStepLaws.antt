-- The word of a line, one way out of the code after another.
use Prim.Native.Nat.{ℕ, ◌^◌, ◌≤◌}
use mathlib.Core.Path.{◌≡◌, sym}
use Rattle.std.specs.Prelude.{Option, None, Some}
use mathlib.Core.List.{List, [], ◌∷◌}
use native.Mathlib.Omega.{arith}
use borrow.Author.Tests.{eq-eqb, ne_eqb}
use lib.ListN.{length, drop}
use Rattle.word.specs.Fields.{join}
use Rattle.text.specs.Readers.{TextFront, front, read_line}
use Rattle.text.specs.ReadAnswers.{numbers_of, ReadsLine}
use Rattle.text.specs.declared.reading.Numbers.{Numbers}
use Rattle.text.proofs.ReadLineLaws.{line_read}
use Rattle.code.specs.Instruction.{word_widths}
use Rattle.code_reading.specs.Reading.{line_limits, read_word}
use Rattle.code_reading.specs.LineAnswers.{ReadsWord}

-- what a line's answer says
module _ {text : List ℕ} {read : Option (TextFront (List ℕ))} {answer : Option (Numbers × ℕ)} (reads : ReadsLine text read answer) where
  pub line_is : {numbers : Numbers} {next : ℕ} → answer ≡ Some (numbers, next) → read ≡ Some (front (numbers_of numbers) (drop next text))
  line_is e = rw e at (sym reads.says)

  pub line_not : answer ≡ None → read ≡ None
  line_not e = rw e at (sym reads.says)

  pub line_inside : {numbers : Numbers} {next : ℕ} → answer ≡ Some (numbers, next) → next ≤ length text
  line_inside e = rw e at reads.inside

module _ (line : ℕ) (behind : List ℕ) where
  pub no_line : (text : List ℕ) → read_line (line_limits line) behind ≡ None → ReadsWord text (read_word line behind) None
  unfolding read_word
  no_line text e = record { says = sym (rw e); inside = omega arith }

  module _ (numbers : Numbers) (rest : List ℕ) (e : read_line (line_limits line) behind ≡ Some (front (numbers_of numbers) rest)) where
    pub other_number : (text : List ℕ) → (numbers.0 ≡ line → ⊥) → ReadsWord text (read_word line behind) None
    unfolding read_word
    other_number text other = record { says = sym (rw (e, ne_eqb numbers.0 line other)); inside = omega arith }

    pub fields_fit : line ≤ 10 ^ 18 → (numbers.1 ≤ 31) × (numbers.2 ≤ 255) × (numbers.3 ≤ 255) × (numbers.4 ≤ 7)
    fields_fit small =
        let fits = (line_read (line_limits line) behind (omega arith, (omega arith, (omega arith, (omega arith, (omega arith, tt))))) e).within in
        (fits.1.0, fits.1.1.0, fits.1.1.1.0, fits.1.1.1.1.0)

    pub own_number : {word : ℕ} → numbers.0 ≡ line → word ≡ join word_widths (numbers.1 ∷ numbers.2 ∷ numbers.3 ∷ numbers.4 ∷ 0 ∷ []) → read_word line behind ≡ Some (front word rest)
    unfolding read_word
    own_number own is = rw (e, eq-eqb numbers.0 line own, is)

pub word_here : (text : List ℕ) (read : Option (TextFront ℕ)) (word next : ℕ) → read ≡ Some (front word (drop next text)) → next ≤ length text → ReadsWord text read (Some (word, next))
word_here text read word next e inside = record { says = sym e; inside = inside }
