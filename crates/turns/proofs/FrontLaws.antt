-- The front of a table gives a round the same finding as the whole, where every row behind it is zero.
use Prim.Native.Nat.{ℕ}
use mathlib.Core.Path.{◌≡◌, sym, ◌∙◌}
use Rattle.std.specs.Prelude.{Result, Ok, Err}
use mathlib.Core.List.{List}
use lib.ListN.{take}
use Rattle.answers.specs.First.{first}
use Rattle.answers.specs.declared.rounds.Rounded.{Rounded}
use Rattle.terms.specs.Rules.{used_rows}
use Rattle.calls.specs.Round.{RoundLent, untouched, round_refusals, round}
use Rattle.looking.specs.Front.{Front}
use Rattle.looking.proofs.FrontLaws.{same_used, same_length, same_bad_term, same_valid}
use Rattle.turns.specs.Found.{round_finding, GoesOn}
use Rattle.turns.proofs.CheckLaws.{found_some, found_none, round_refused}

-- what was lent, with so many first rows
abbrev pub cut_to : ℕ → RoundLent → RoundLent
cut_to front x = record {
  session = x.session;
  rounds = x.rounds;
  kinds = x.kinds;
  objects = x.objects;
  messages = x.messages;
  certificates = x.certificates;
  terms = take front x.terms;
}

module _ (x : RoundLent) (code : List ℕ) {front : ℕ} (cut : Front x.terms front) where
  found_same : round_finding (first (round_refusals (cut_to front x) code)) (used_rows (take front x.terms)) ≡ round_finding (first (round_refusals x code)) (used_rows x.terms)
  found_same =
      rw (
        same_length cut,
        same_bad_term cut x.session.counter,
        same_used cut,
        same_valid cut (used_rows x.terms) x.kinds x.objects x.messages x.certificates x.session.message,
      )

  -- what was found over the front
  module _ {found : Result ℕ Rounded} (looked : found ≡ round_finding (first (round_refusals (cut_to front x) code)) (used_rows (take front x.terms))) where
    pub front_goes_on : {used : ℕ} → found ≡ Ok used → GoesOn x code used
    front_goes_on is = let p = found_none _ (sym is ∙ looked ∙ found_same) in record { passes = p.0; counted = p.1 }

    pub front_refused : {answer : Rounded} → found ≡ Err answer → untouched answer x ≡ round x code
    front_refused is = round_refused x code (found_some _ _ (sym is ∙ looked ∙ found_same))
