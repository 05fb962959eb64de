-- What a round finds before it steps: a refusal, or the number of used rows.
use Rattle.std.specs.Prelude.{ℕ, ◌≡◌, not, List, [], ◌∷◌, leb}
use Rattle.std.specs.Prelude.{Option, None, Some, Result, Ok, Err}
use Rattle.answers.specs.First.{when, first}
use Rattle.answers.specs.declared.rounds.Session.{Session}
use Rattle.answers.specs.declared.rounds.Rounded.{Rounded}
use Rattle.answers.specs.declared.rounds.Rounded.TheVariants.{NoMessage, NotTaken, RoleEnded}
use Rattle.stores.specs.Cells.{is_set}
use Rattle.terms.specs.Rules.{used_rows}
use Rattle.calls.specs.Round.{RoundLent, round_refusals}

-- 14, 13, 12
abbrev pub turn_refusals : Session → ℕ → List (Option Rounded)
turn_refusals session rounds =
    when (leb rounds session.round) RoleEnded
    ∷ when (is_set session.answer) NotTaken
    ∷ when (not (is_set session.message)) NoMessage
    ∷ []

abbrev pub round_finding : Option Rounded → ℕ → Result ℕ Rounded
round_finding (Some answer) used = Err answer
round_finding None used = Ok used

-- nothing is refused, and so many rows are used
pub record GoesOn (x : RoundLent) (code : List ℕ) (used : ℕ) : Type 0 where
  pub passes : first (round_refusals x code) ≡ None
  pub counted : used ≡ used_rows x.terms
