-- A run writes new rows alone: those from the used rows before it up to the used rows after it.
use Prim.Native.Nat.{ℕ}
use mathlib.Core.Path.{◌≡◌, refl}
use mathlib.Core.Logic.{inl, inr}
use Rattle.std.specs.Prelude.{Option, None, Some}
use mathlib.Core.List.{List}
use native.Mathlib.Omega.{arith}
use lib.ListN.{length}
use Rattle.answers.specs.First.{first}
use Rattle.answers.specs.declared.Ran.{Ran}
use Rattle.code.specs.Words.{bad_word}
use Rattle.numbers.specs.Kinds.{kind_in}
use Rattle.terms.specs.Rules.{used_rows}
use Rattle.terms.proofs.TableLaws.{used_rows_lem}
use Rattle.theory.specs.Outcome.{Outcome, done, stuck, room}
use Rattle.theory.specs.RowModel.{row_world}
use Rattle.theory.specs.Machine.{State, exec}
use Rattle.theory.proofs.RowsKept.{exec_appends}
use Rattle.calls.specs.Run.{Lent, RunOutcome, lines_of, state_over, state_of, left_by, ended, refusals, run_by, run}
use Rattle.calls.specs.Valid.{Valid}
use Rattle.calls.proofs.FinishLaws.{state_valid}
use Rattle.calls.proofs.RunLaws.{steps_of, Passed, passed_valid}
use Rattle.looking.specs.Found.{used_with}
use Rattle.looking.specs.Front.{SameBut}
use Rattle.looking.proofs.LookLaws.{passed}

pub all_same : (rows : List ℕ) (from to : ℕ) → SameBut rows rows from to
all_same rows from to = record { long = refl; others = λ row outside. refl }

-- steps that are done
pub steps_new_rows : (x : Lent) (code : List ℕ) → Valid x → bad_word (kind_in x.kinds) code ≡ None → (t : State row_world)
    → exec row_world (kind_in x.kinds) (lines_of code) (state_of x) ≡ done t
    → SameBut x.terms t.stores.memory.rows (used_rows x.terms) (used_rows t.stores.memory.rows)
unfolding state_over
steps_new_rows x code valid good t steps =
    let rows = exec_appends (kind_in x.kinds) (lines_of code) (state_of x) t (used_rows_lem x.terms).inside steps in
    let counted = (state_valid x code valid good t steps).table.counted in
    record { long = rows.same_length; others = λ row. elim [ inl l ↦ rows.kept row l | inr l ↦ rows.rest row (omega (arith, counted, l)) ] }

module _ (x : Lent) (code : List ℕ) where
  abbrev NewRows : RunOutcome → Type 0
  NewRows o = SameBut x.terms o.terms (used_rows x.terms) (used_with o.answer o.terms)

  stepped : Passed x code → (o : Outcome (State row_world)) → steps_of x code ≡ o → NewRows (ended (length code) x o)
  unfolding left_by
  stepped p (done t) e = steps_new_rows x code (passed_valid p) p.words t e
  stepped p (stuck place why) e = all_same x.terms _ _
  stepped p (room place) e = all_same x.terms _ _

  by : (o : Option Ran) → first (refusals x code) ≡ o → NewRows (run_by x code o)
  by (Some answer) e = all_same x.terms _ _
  by None e = stepped (passed x code e) (steps_of x code) refl

  pub run_new_rows : SameBut x.terms (run x code).terms (used_rows x.terms) (used_with (run x code).answer (run x code).terms)
  unfolding run
  run_new_rows = by (first (refusals x code)) refl
