-- The lines of code that ran, part after part, and how long they are.
use Prim.Native.Nat.{ℕ, ◌≤◌}
use mathlib.Core.Path.{◌≡◌, refl, ap}
use mathlib.Core.Bool.{Bool, true, false}
use mathlib.Core.List.{List, [], ◌∷◌, ◌++◌, append-nil}
use native.Mathlib.Omega.{arith}
use borrow.Author.Tests.{eq-eqb, ne_eqb}
use lib.Dec.{eqb}
use lib.ListN.{length, take, length-append, length-take}
use Rattle.text.specs.Lines.{word_line}
use Rattle.text.specs.Written.{Wrote}
use Rattle.text.proofs.WrittenLaws.{wrote_then}
use Rattle.text.proofs.LineLaws.{word_line_most}
use Rattle.answers.specs.Numbers.{ran_number, ran_place, ran_reason}
use Rattle.terms.specs.Rules.{used_rows}
use Rattle.answers.specs.declared.Ran.{Ran}
use Rattle.answers.specs.declared.Ran.TheVariants.{Done, Limit, BadTerm, BadStore, BadWord, Stuck, NoRoom}
use Rattle.numbers.specs.Limits.{variables, named_cells, most_code_words}
use Rattle.calls.specs.Run.{RunOutcome}
use Rattle.printing.specs.Listing.{end_word, object_word, message_word, code_lines, end_numbers, end_line, cell_lines, set_lines, store_lines, ran_lines}
use Rattle.printing.proofs.LineLaws.{code_length, cells_length}

-- the numbers of the end line
pub end_line_lem : (answer : Ran) (used counter accumulator : ℕ) {number place reason : ℕ} {before after : List ℕ} {at next : ℕ} → number ≡ ran_number answer → place ≡ ran_place answer
    → reason ≡ ran_reason answer
    → Wrote (word_line end_word (number ∷ place ∷ reason ∷ used ∷ counter ∷ accumulator ∷ [])) before at after next
    → Wrote (end_numbers answer used counter accumulator) before at after next
end_line_lem answer used counter accumulator number_is place_is reason-is wrote = rw (← number_is, ← place_is, ← reason-is) wrote

-- only the first answer has number 0
not_zero : (answer : Ran) → ((words : ℕ) → answer ≡ Done words → ⊥) → ran_number answer ≡ 0 → ⊥
not_zero (Done words) other e = other words refl
not_zero Limit other e = omega arith
not_zero (BadTerm row) other e = omega arith
not_zero BadStore other e = omega arith
not_zero (BadWord word) other e = omega arith
not_zero (Stuck word reason) other e = omega arith
not_zero (NoRoom word) other e = omega arith

module _ (code objects messages : List ℕ) (answer : Ran) (used counter accumulator : ℕ) {before middle last : List ℕ} {at next there : ℕ}
    (words : Wrote (code_lines 0 code) before at middle next) (end : Wrote (end_numbers answer used counter accumulator) middle next last there) where
  pub ran_not_done : ((words : ℕ) → answer ≡ Done words → ⊥) → Wrote (code_lines 0 code ++ end_numbers answer used counter accumulator ++ set_lines answer objects messages) before at last there
  ran_not_done other = rw (ne_eqb (ran_number answer) 0 (not_zero answer other), set_lines, append-nil) (wrote_then words end)

  pub ran_done : {after : List ℕ} {after_all count : ℕ} → answer ≡ Done count
      → Wrote (cell_lines object_word 0 objects ++ cell_lines message_word 0 (take named_cells messages)) last there after after_all
      → Wrote (code_lines 0 code ++ end_numbers answer used counter accumulator ++ set_lines answer objects messages) before at after after_all
  ran_done done cells = rw (eq-eqb (ran_number answer) 0 (ap ran_number done), set_lines) (wrote_then (wrote_then words end) cells)

pub ruleset ways = (end_line_lem, ran_not_done, ran_done, wrote_then, arith)

-- how long they are
end_length : (r : RunOutcome) → length (end_line r) ≤ 131
end_length r = omega (arith, word_line_most end_word (ran_number r.answer ∷ ran_place r.answer ∷ ran_reason r.answer ∷ used_rows r.terms ∷ r.counter ∷ r.accumulator ∷ []))

store_length : (r : RunOutcome) → length r.objects ≤ variables → length (store_lines r) ≤ 5760
store_length r few = go (eqb (ran_number r.answer) 0)
  where
    go : (done : Bool)
        → length {A = ℕ} (elim done as (λ _. List ℕ) [ true ↦ cell_lines object_word 0 r.objects ++ cell_lines message_word 0 (take 64 r.messages) | false ↦ [] ]) ≤ 5760
    go true =
        rw length-append
        (omega (arith, cells_length object_word (omega arith) r.objects, cells_length message_word (omega arith) (take 64 r.messages), length-take 64 r.messages))
    go false = omega arith

pub ran_length : (code : List ℕ) (r : RunOutcome) → length code ≤ most_code_words → length r.objects ≤ variables → length (ran_lines code r) ≤ 22019
ran_length code r few_words few-cells =
    simp length-append (omega (arith, code_length code (omega arith), end_length r, store_length r few-cells))
