-- What passes run's checks is valid, and a finished run leaves it so.
use Prim.Native.Nat.{ℕ}
use mathlib.Core.Path.{◌≡◌}
use mathlib.Core.List.{List}
use lib.ListN.{length}
use Rattle.answers.specs.declared.Ran.TheVariants as Ran
use Rattle.theory.specs.Outcome.{done}
use Rattle.theory.specs.RowModel.{row_world}
use Rattle.theory.specs.Machine.{State}
use Rattle.calls.specs.Run.{Lent, lent_after, left_by, run}
use Rattle.calls.specs.Valid.{Valid}
use Rattle.calls.proofs.ValidAgain.{stays_valid}
use Rattle.calls.proofs.RunLaws.{steps_of, Passed, passed_valid}
use Rattle.calls.proofs.StateBack.{last_valid, rows_appended}
use Rattle.promises.specs.Answers.{run_number}
use Rattle.promises.proofs.RunLaws.{finished}

pub finish_valid : {x : Lent} {code : List ℕ} (p : Passed x code) (t : State row_world) → steps_of x code ≡ done t → Valid (lent_after x (left_by (Ran.Done (length code)) t))
finish_valid {x} {code} p t steps = stays_valid x (passed_valid p) t (last_valid p t steps) (rows_appended p t steps) (Ran.Done (length code))

pub run_valid_again : (x : Lent) (code : List ℕ) → run_number (run x code) ≡ 0 → Valid (lent_after x (run x code))
run_valid_again x code e =
    let f = finished x code e in
    rw f.left (finish_valid f.passed f.state f.steps)
