-- What the operations on terms answer, at the memory of a state.
use Rattle.std.specs.Prelude.{Option, Result, Ok, Err}
use Rattle.std.specs.Prelude.{Some, None}
use Prim.Native.Nat.{ℕ, ◌<◌}
use mathlib.Core.Path.{◌≡◌, refl, ◌∙◌}
use mathlib.Core.List.{List}
use native.Mathlib.Omega.{arith}
use lib.ListN.{get_or}
use Rattle.numbers.specs.Limits.{most_term_rows}
use Rattle.numbers.specs.declared.TermRow.{TermRow}
use Rattle.answers.specs.Numbers.{reason_number}
use Rattle.answers.specs.declared.Reason.{Reason}
use Rattle.terms.specs.Shape.{parts_of}
use Rattle.terms.specs.Row.{shape_of}
use Rattle.terms.specs.Finder.{Found}
use Rattle.stores.specs.Cells.{unset}
use Rattle.theory.specs.Outcome.{Answer, got, not, full}
use Rattle.theory.specs.World.{Op, Test, create, key_of}
use Rattle.theory.specs.RowModel.{Table, with_rows, with_counter, row_world}
use Rattle.calls.specs.Run.{state_over}
use Rattle.world.specs.Operations.{finding, MakesWord, MakesOver, NamesAt, OpensOver, CertifiedBy, PartsOver, Tests, TestsOver}
use Rattle.machine.proofs.FoundLaws.{Finds}

-- a row's number is no cell's unset
pub row_number : {row : ℕ} → row < most_term_rows → row ≡ unset → ⊥
row_number below e = omega arith

-- a condition that looks at no memory
module _ {t : Test ℕ} {answer : Result (Unit {0}) Reason} (tests : Tests t answer) (x : Table) where
  pub tests_holds : answer ≡ Ok tt → row_world.test t x ≡ got tt
  tests_holds e = tests.says x ∙ rw e

  pub tests_not : {reason : Reason} → answer ≡ Err reason → row_world.test t x ≡ not (reason_number reason)
  tests_not e = tests.says x ∙ rw e

module _ (accumulator : ℕ) (objects messages : List ℕ) (table : Table) where
  abbrev memory : Table
  memory = (state_over accumulator objects messages table).stores.memory

  -- a term that is made, before the finder has answered
  abbrev pub Placing : ℕ → Answer (ℕ × Table)
  Placing word = finding memory word

  pub makes : {o : Op ℕ} {word : ℕ} → MakesWord o word → row_world.apply o memory ≡ Placing word
  makes made = made.says memory

  module _ {o : Op ℕ} {answer : Result ℕ Reason} (made : MakesOver table.rows o answer) where
    pub made_word : {word : ℕ} → answer ≡ Ok word → row_world.apply o memory ≡ Placing word
    unfolding state_over
    made_word e = made.says table refl ∙ rw e

    pub made_not : {reason : Reason} → answer ≡ Err reason → row_world.apply o memory ≡ not (reason_number reason)
    unfolding state_over
    made_not e = made.says table refl ∙ rw e

  module _ {o : Op ℕ} {answer : Result TermRow Reason} (opened : OpensOver table.rows o answer) where
    pub opened_row : {row : TermRow} → answer ≡ Ok row → row_world.apply o memory ≡ got (row.0, table)
    unfolding state_over
    opened_row e = opened.says table refl ∙ rw e

    pub opened_not : {reason : Reason} → answer ≡ Err reason → row_world.apply o memory ≡ not (reason_number reason)
    unfolding state_over
    opened_not e = opened.says table refl ∙ rw e

  module _ {agent : ℕ} {answer : Result TermRow Reason} (certified : CertifiedBy table.certificates agent answer) where
    pub certified_row : {row : TermRow} → answer ≡ Ok row → row_world.apply (key_of agent) memory ≡ got (row.0, table)
    unfolding state_over
    certified_row e = certified.says table refl ∙ rw e

    pub certified_not : {reason : Reason} → answer ≡ Err reason → row_world.apply (key_of agent) memory ≡ not (reason_number reason)
    unfolding state_over
    certified_not e = certified.says table refl ∙ rw e

  module _ {row n : ℕ} {answer : Result ℕ Reason} (parts : PartsOver table.rows row n answer) where
    pub parted_tuple : {word : ℕ} → answer ≡ Ok word → row_world.parts row n memory ≡ got (λ i. get_or (parts_of (shape_of word)) i row)
    unfolding state_over
    parted_tuple e = parts.says table refl ∙ rw e

    pub parted_not : {reason : Reason} → answer ≡ Err reason → row_world.parts row n memory ≡ not (reason_number reason)
    unfolding state_over
    parted_not e = parts.says table refl ∙ rw e

  module _ {t : Test ℕ} {answer : Result (Unit {0}) Reason} where
    pub tested_holds : TestsOver table.rows t answer → answer ≡ Ok tt → row_world.test t memory ≡ got tt
    unfolding state_over
    tested_holds tests e = tests.says table refl ∙ rw e

    pub tested_not : {reason : Reason} → TestsOver table.rows t answer → answer ≡ Err reason → row_world.test t memory ≡ not (reason_number reason)
    unfolding state_over
    tested_not tests e = tests.says table refl ∙ rw e

  -- the finder's answer
  module _ {rows' : List ℕ} {term : ℕ} {found : Found} (answer : Finds table.rows table.used term found rows') where
    pub placed_at : {row : TermRow} {used : ℕ} → found ≡ Some (row, used) → Placing term ≡ got (row.0, with_rows table rows' used)
    unfolding state_over
    placed_at e = rw (← answer.says, e)

    pub placed_full : found ≡ None → Placing term ≡ full
    unfolding state_over
    placed_full e = rw (← answer.says, e)

  -- a created name: the counter is looked at before the row
  module _ {kind : ℕ} {answer : Option (ℕ × ℕ)} (names : NamesAt kind table.counter answer) where
    pub named_none : answer ≡ None → row_world.apply (create kind) memory ≡ full
    unfolding state_over
    named_none e = names.says table refl ∙ rw e

    module _ {word counter : ℕ} (named : answer ≡ Some (word, counter)) {rows' : List ℕ} {found : Found} (finds : Finds table.rows table.used word found rows') where
      pub created_at : {row : TermRow} {used : ℕ} → found ≡ Some (row, used) → row_world.apply (create kind) memory ≡ got (row.0, with_rows (with_counter table counter) rows' used)
      unfolding state_over
      created_at e = names.says table refl ∙ rw (named, ← finds.says, e)

      pub created_full : found ≡ None → row_world.apply (create kind) memory ≡ full
      unfolding state_over
      created_full e = names.says table refl ∙ rw (named, ← finds.says, e)
