-- A round writes new rows alone: those from the used rows before it up to the record's used rows after it.
use Prim.Native.Nat.{ℕ}
use mathlib.Core.Path.{◌≡◌, refl, sym, ◌∙◌}
use Rattle.std.specs.Prelude.{Option, None, Some}
use mathlib.Core.List.{List}
use lib.ListN.{length}
use Rattle.numbers.specs.Kinds.{kind_in}
use Rattle.answers.specs.First.{first}
use Rattle.answers.specs.declared.rounds.Rounded.{Rounded}
use Rattle.terms.specs.Rules.{used_rows}
use Rattle.theory.specs.Outcome.{Outcome, done, stuck, room}
use Rattle.theory.specs.RowModel.{row_world}
use Rattle.theory.specs.Machine.{State, exec}
use Rattle.theory.proofs.InTurn.{from_done}
use Rattle.calls.specs.Run.{lines_from, state_of, left_by}
use Rattle.calls.specs.Frame.{middle}
use Rattle.calls.specs.Round.{RoundLent, RoundOutcome, received, answered, sent_by, round_ended, round_refusals, round_by, round}
use Rattle.calls.proofs.FrameLaws.{later_steps}
use Rattle.looking.specs.Front.{SameBut}
use Rattle.looking.proofs.NewRowLaws.{all_same, steps_new_rows}
use Rattle.turns.proofs.WordLaws.{good_middle}
use Rattle.turns.proofs.CheckLaws.{RoundPassed, round_passed}

module _ (x : RoundLent) (code : List ℕ) where
  abbrev NewRows : RoundOutcome → Type 0
  NewRows o = SameBut x.terms o.terms (used_rows x.terms) o.session.used

  abbrev steps_from : ℕ → Outcome (State row_world)
  steps_from place = exec row_world (kind_in x.kinds) (lines_from place (middle code)) (state_of (received x))

  stepped : RoundPassed x code → (o : Outcome (State row_world)) → steps_from 1 ≡ o → NewRows (round_ended (length code) x o)
  unfolding sent_by answered left_by
  stepped p (done t) e =
      let kind = kind_in x.kinds in
      let steps = from_done 1 (steps_from 0) (sym (later_steps kind 1 (middle code) (state_of (received x))) ∙ e) in
      steps_new_rows (received x) (middle code) p.valid (good_middle code p.within.words.0 kind p.good_words) t steps
  stepped p (stuck place why) e = all_same x.terms _ _
  stepped p (room place) e = all_same x.terms _ _

  by : (o : Option Rounded) → first (round_refusals x code) ≡ o → NewRows (round_by x code o)
  by (Some answer) e = all_same x.terms _ _
  by None e = stepped (round_passed x code e) (steps_from 1) refl

  pub round_new_rows : SameBut x.terms (round x code).terms (used_rows x.terms) (round x code).session.used
  unfolding round
  round_new_rows = by (first (round_refusals x code)) refl
