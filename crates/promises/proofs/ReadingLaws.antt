-- The cells that a finished run leaves mean what its last state means.
use Prim.Native.Nat.{ℕ}
use mathlib.Core.Path.{◌≡◌, refl, ◌∙◌, ap}
use mathlib.Core.List.{List}
use Rattle.answers.specs.declared.Ran.{Ran}
use Rattle.stores.specs.Cells.{store_of}
use Rattle.theory.specs.Outcome.{done}
use Rattle.theory.specs.RowModel.{row_world}
use Rattle.theory.specs.Machine.{State}
use Rattle.calls.specs.Run.{Lent, lent_after, state_over, state_of, left_by}
use Rattle.theory.proofs.RowsRunAsTerms.{terms_of}
use Rattle.calls.proofs.RunLaws.{steps_of, Passed}
use Rattle.calls.proofs.StateBack.{state_back}
use Rattle.promises.specs.Reading.{before, after, message_before, message_after}

-- what is lent is read as theory reads it
before_read : (x : Lent) → before x ≡ (terms_of (state_of x)).stores
unfolding state_over store_of
before_read x = refl

message_read : (x : Lent) → message_before x ≡ (terms_of (state_of x)).accumulator
unfolding state_over
message_read x = refl

module _ {x : Lent} {code : List ℕ} (p : Passed x code) (t : State row_world) (steps : steps_of x code ≡ done t) (answer : Ran) where
  pub after_finish : after x (left_by answer t) ≡ (terms_of t).stores
  after_finish = before_read (lent_after x (left_by answer t)) ∙ ap (λ s. (terms_of s).stores) (state_back p t steps answer)

  pub message_finish : message_after (left_by answer t) ≡ (terms_of t).accumulator
  message_finish = message_read (lent_after x (left_by answer t)) ∙ ap (λ s. (terms_of s).accumulator) (state_back p t steps answer)
