-- What is printed of lines that are read: how large its place is, and how long it is.
use Prim.Native.Nat.{ℕ, ◌<◌, ◌≤◌}
use mathlib.Core.Path.{◌≡◌, refl, sym, ◌∙◌, ap, subst}
use mathlib.Core.Logic.{◌≢◌}
use mathlib.Core.Bool.{Bool, true, false}
use Rattle.std.specs.Prelude.{Some}
use mathlib.Core.List.{List}
use native.Mathlib.Omega.{arith}
use borrow.Author.Tests.{eqb-true, eq-eqb, ne_eqb}
use lib.Dec.{eqb}
use lib.ListN.{length, take, replicate, length-take, length-replicate}
use Rattle.word.proofs.LowestLaws.{lowest_some}
use Rattle.numbers.specs.Limits.{most_code_words}
use Rattle.text.specs.Written.{Wrote}
use Rattle.code.specs.Words.{bad_word}
use Rattle.printing.specs.Listing.{refused_line, code_lines}
use Rattle.printing.proofs.LineLaws.{code_length}
use Rattle.code_reading.specs.ReadBackNumbers.{read_back_number, read_back_place}
use Rattle.code_reading.specs.Reading.{read_words, ReadOutcome, read_code}
use Rattle.code_reading.specs.declared.answer.ReadBack.{ReadBack}
use Rattle.code_reading.specs.declared.answer.ReadBack.TheVariants.{Done, BadLine, Limit, BadWord, CodeTooShort}
use Rattle.code_reading.proofs.LinesLaws.{all_words}
use Rattle.code_reading.proofs.ReadTableLaws.{lines_few, bad_line_iff, Gives, Comes, comes_iff}
use Rattle.outcomes.proofs.Listed.{refused_short}
use Rattle.reading.specs.Rereading.{most_input, outcome_lines, code_again}

bad_word_inside : (kind : ℕ → ℕ) (words : List ℕ) {word : ℕ} → bad_word kind words ≡ Some word → word < length words
unfolding bad_word
bad_word_inside kind words {word} e = ((lowest_some _ 0 words word).0 e).inside

module _ (text kinds : List ℕ) {room : List ℕ} (zeros : room ≡ replicate most_code_words 0) {answer : ReadBack} {code : List ℕ}
    (is : record { answer = answer; code = code } ≡ read_code text kinds room) where
  long : length room ≡ 768
  long = ap length zeros ∙ length-replicate {A = ℕ} 768 0

  comes : (told : ReadBack) → answer ≡ told → Comes text kinds room (read_back_number told) (read_back_place told)
  comes told e = (ap (λ o. read_back_number o.answer) (sym is) ∙ ap read_back_number e, ap (λ o. read_back_place o.answer) (sym is) ∙ ap read_back_place e)

  gives : (told : ReadBack) → answer ≡ told → Gives text kinds room told
  gives (Done words) e = (comes_iff text kinds room 0 words refl refl).0 (comes (Done words) e)
  gives (BadLine line) e = (comes_iff text kinds room 15 line refl refl).0 (comes (BadLine line) e)
  gives Limit e = (comes_iff text kinds room 1 0 refl refl).0 (comes Limit e)
  gives (BadWord word) e = (comes_iff text kinds room 9 word refl refl).0 (comes (BadWord word) e)
  gives (CodeTooShort words) e = (comes_iff text kinds room 8 words refl refl).0 (comes (CodeTooShort words) e)

  -- a line's number, like a word's, is less than the bytes of the text or the words of the room
  pub place_fits : length text ≤ most_input → read_back_place answer ≤ most_input
  place_fits few = go answer (gives answer refl)
    where
      go : (told : ReadBack) → Gives text kinds room told → read_back_place told ≤ most_input
      go (Done words) g = omega (arith, g.1, g.2, long)
      go (BadLine line) g = omega (arith, ((bad_line_iff text (omega arith) line).0 g).inside, lines_few text)
      go Limit g = omega arith
      go (BadWord word) g = omega (arith, bad_word_inside _ (read_words text) g.2, all_words text g.0, lines_few text)
      go (CodeTooShort words) g = omega (arith, g.1, all_words text g.0.0, lines_few text)

  pub words_fit : read_back_number answer ≡ 0 → read_back_place answer ≤ most_code_words
  words_fit = go answer (gives answer refl)
    where
      go : (told : ReadBack) → Gives text kinds room told → read_back_number told ≡ 0 → read_back_place told ≤ most_code_words
      go (Done words) g z = omega (arith, g.1, g.2, long)
      go (BadLine line) g z = absurd (omega arith)
      go Limit g z = omega arith
      go (BadWord word) g z = absurd (omega arith)
      go (CodeTooShort words) g z = absurd (omega arith)

  pub done_fits : {words : ℕ} → length code ≡ length room → answer ≡ Done words → (words ≤ length code) × (words ≤ most_code_words)
  done_fits {words} kept done =
      let few : words ≤ most_code_words = omega (arith, words_fit (ap read_back_number done), ap read_back_place done) in
      (omega (arith, few, kept, long), few)

  again : code_again text kinds ≡ outcome_lines (record { answer = answer; code = code })
  unfolding code_again
  again = sym (ap outcome_lines (is ∙ ap (read_code text kinds) zeros))

  -- only the first answer has number 0
  not_zero : (told : ReadBack) → ((words : ℕ) → told ≡ Done words → ⊥) → read_back_number told ≢ 0
  not_zero (Done words) other e = other words refl
  not_zero (BadLine line) other e = omega arith
  not_zero Limit other e = omega arith
  not_zero (BadWord word) other e = omega arith
  not_zero (CodeTooShort words) other e = omega arith

  module _ {before after : List ℕ} {next : ℕ} where
    pub refused_again : {number place : ℕ} → number ≡ read_back_number answer → place ≡ read_back_place answer → ((words : ℕ) → answer ≡ Done words → ⊥)
        → Wrote (refused_line number place) before 0 after next → Wrote (code_again text kinds) before 0 after next
    refused_again {number} {place} number_is place_is other wrote =
        let lines : refused_line number place ≡ code_again text kinds =
        sym (again ∙ rw (ne_eqb (read_back_number answer) 0 (not_zero answer other), outcome_lines, number_is, place_is)) in
        subst (λ l. Wrote l before 0 after next) lines wrote

    pub printed_again : {place : ℕ} → answer ≡ Done place → Wrote (code_lines 0 (take place code)) before 0 after next → Wrote (code_again text kinds) before 0 after next
    printed_again {place} done wrote =
        let lines : code_lines 0 (take place code) ≡ code_again text kinds =
        sym (again ∙ rw (eq-eqb (read_back_number answer) 0 (ap read_back_number done), outcome_lines, ap read_back_place done)) in
        subst (λ l. Wrote l before 0 after next) lines wrote

outcome_short : (o : ReadOutcome) → (read_back_number o.answer ≡ 0 → read_back_place o.answer ≤ most_code_words) → length (outcome_lines o) ≤ 65536
outcome_short o few = go (eqb (read_back_number o.answer) 0) (eqb-true (read_back_number o.answer) 0)
  where
    place : ℕ
    place = read_back_place o.answer

    go : (done : Bool) → (done ≡ true → read_back_number o.answer ≡ 0)
        → length {A = ℕ} (elim done as (λ _. List ℕ) [ true ↦ code_lines 0 (take place o.code) | false ↦ refused_line (read_back_number o.answer) place ]) ≤ 65536
    go true is =
        let front : length (take place o.code) ≤ 768 = omega (arith, few (is refl), length-take place o.code) in
        omega (arith, code_length (take place o.code) (omega (arith, front)), front)
    go false is = refused_short _ _

pub again_short : (text kinds : List ℕ) → length (code_again text kinds) ≤ 65536
unfolding code_again
again_short text kinds = outcome_short (read_code text kinds (replicate most_code_words 0)) (words_fit text kinds refl refl)
