-- What a round finds before its steps: each check in its order, and what their passing leaves true.
use Prim.Native.Nat.{ℕ, ◌<◌, ◌≤◌}
use mathlib.Core.Path.{◌≡◌, refl, sym, ◌∙◌, ap}
use mathlib.Core.Bool.{Bool, true, false, not, ◌&&◌}
use Rattle.std.specs.Prelude.{Option, None, Some, Result, Ok, Err}
use mathlib.Core.List.{List}
use native.Mathlib.Omega.{arith}
use Rattle.std.proofs.Math.Bool.{and_assoc, and_comm}
use borrow.Author.Tests.{not-true, not-false, leb-false, le-leb, lt-leb}
use lib.Dec.{T, eqb, leb}
use lib.ListN.{length}
use Rattle.word.proofs.TestLaws.{both, twice, fails, is_false, equals, at_most}
use Rattle.numbers.specs.Kinds.{kind_in}
use Rattle.numbers.specs.Limits.{variables, message_cells, most_certificates, most_term_rows, most_names, most_rounds, most_round_words}
use Rattle.answers.specs.First.{first}
use Rattle.answers.specs.declared.Ran.TheVariants.{Limit, BadTerm, BadStore, BadWord}
use Rattle.answers.specs.declared.rounds.Session.{Session}
use Rattle.answers.specs.declared.rounds.Rounded.{Rounded}
use Rattle.answers.specs.declared.rounds.Rounded.TheVariants.{Ran, NoMessage, NotTaken, RoleEnded}
use Rattle.terms.specs.Rules.{used_rows, bad_term, checked_by}
use Rattle.terms.proofs.TableLaws.{valid_table}
use Rattle.stores.specs.Cells.{is_set}
use Rattle.stores.specs.Valid.{cell_fits, valid}
use Rattle.looking.proofs.LookLaws.{checked_bad, checked_used}
use Rattle.calls.specs.Valid.{LentWithin, Valid}
use Rattle.calls.specs.Frame.{bad_round_word}
use Rattle.calls.specs.Round.{RoundLent, received, untouched, round_lengths_fit, record_fits, round_refusals, round_by, round}
use Rattle.calls.proofs.CompileLaws.{first_none, when_none, map_none}
use Rattle.calls.proofs.RunLaws.{stores_fit, stores_valid}
use Rattle.turns.specs.Found.{turn_refusals, round_finding}

-- 14, 13, 12
module _ (session : Session) (rounds used : ℕ) where
  pub turn_ended : rounds ≤ session.round → Err RoleEnded ≡ round_finding (first (turn_refusals session rounds)) used
  unfolding first
  turn_ended past = rw (le-leb rounds session.round past)

  module _ (before : session.round < rounds) (sent : Bool) (is : sent ≡ is_set session.answer) where
    pub turn_waits : sent ≡ true → Err NotTaken ≡ round_finding (first (turn_refusals session rounds)) used
    unfolding first
    turn_waits set = rw (lt-leb rounds session.round before, sym is ∙ set)

    module _ (taken : sent ≡ false) (waits : Bool) (has : waits ≡ is_set session.message) where
      pub turn_empty : not waits ≡ true → Err NoMessage ≡ round_finding (first (turn_refusals session rounds)) used
      unfolding first
      turn_empty unset = rw (lt-leb rounds session.round before, sym is ∙ taken, sym has ∙ not-true _ unset)

      pub turn_accepted : not waits ≡ false → Ok used ≡ round_finding (first (turn_refusals session rounds)) used
      unfolding first
      turn_accepted set = rw (lt-leb rounds session.round before, sym is ∙ taken, sym has ∙ not-false _ set)

pub ruleset turn-ways = (turn_ended, turn_waits, turn_empty, turn_accepted)

pub found_some : (o : Option Rounded) (used : ℕ) {answer : Rounded} → Err answer ≡ round_finding o used → o ≡ Some answer
found_some (Some other) used e = cc
found_some None used e = absurd (let z : ◌≡◌ {A = ℕ} 0 1 = cc in omega arith)

pub found_none : (o : Option Rounded) {count used : ℕ} → Ok count ≡ round_finding o used → (o ≡ None) × (count ≡ used)
found_none None e = (refl, cc)
found_none (Some other) e = absurd (let z : ◌≡◌ {A = ℕ} 0 1 = cc in omega arith)

and_swap : (a b c : Bool) → (a && b && c) ≡ (a && c && b)
and_swap a b c = and_assoc a b c ∙ ap (λ (d : Bool). a && d) (and_comm b c) ∙ sym (and_assoc a c b)

module _ (x : RoundLent) (code : List ℕ) where
  abbrev finding : Result ℕ Rounded
  finding = round_finding (first (round_refusals x code)) (used_rows x.terms)

  abbrev slices : Bool
  slices =
      eqb (length x.kinds) variables && eqb (length x.objects) variables && eqb (length x.messages) message_cells
      && leb (length x.certificates) most_certificates && leb (length x.terms) most_term_rows && leb x.session.counter most_names

  -- each check, as look comes to it: 1 is in two parts
  module _ {lengths fit : Bool} {counted : ℕ} (long : lengths ≡ (slices && leb (length code) most_round_words)) (counts : counted ≡ used_rows x.terms)
      (said : fit ≡ (lengths && leb 2 (length code) && leb 1 x.rounds && leb x.rounds most_rounds && eqb x.session.used counted)) where
    fit_same : fit ≡ round_lengths_fit x code
    fit_same = said ∙ rw (long, counts, and_swap slices (leb (length code) most_round_words) (leb 2 (length code)))

    pub found_limit : fit ≡ false → Err (Ran Limit) ≡ finding
    unfolding first
    found_limit e = rw (sym fit_same ∙ e)

    module _ (fits : fit ≡ true) {checked : Result ℕ ℕ} (rows : checked ≡ checked_by (bad_term x.terms x.session.counter) x.terms) where
      pub found_term : {row : ℕ} → checked ≡ Err row → Err (Ran (BadTerm row)) ≡ finding
      unfolding first
      found_term is = rw (sym fit_same ∙ fits, checked_bad x.terms _ rows is)

      module _ {used : ℕ} (is : checked ≡ Ok used) {hold : Bool}
          (same : hold ≡ (valid x.terms counted x.kinds x.objects x.messages x.certificates x.session.message && cell_fits counted x.session.answer)) where
        pub found_store : hold ≡ false → Err (Ran BadStore) ≡ finding
        unfolding first
        found_store e = rw (sym fit_same ∙ fits, (checked_used x.terms _ rows is).0, ← counts, sym same ∙ e)

        module _ (holds : hold ≡ true) {place : Option ℕ} (words : place ≡ bad_round_word (kind_in x.kinds) code) where
          pub found_word : {word : ℕ} → place ≡ Some word → Err (Ran (BadWord word)) ≡ finding
          unfolding first
          found_word e = rw (sym fit_same ∙ fits, (checked_used x.terms _ rows is).0, ← counts, sym same ∙ holds, sym words ∙ e)

          pub found_turn : place ≡ None → {answer : Result ℕ Rounded} → answer ≡ round_finding (first (turn_refusals x.session x.rounds)) counted → answer ≡ finding
          unfolding first
          found_turn e turned = rw (sym fit_same ∙ fits, (checked_used x.terms _ rows is).0, ← counts, sym same ∙ holds, sym words ∙ e) turned

  -- what 1 leaves true
  pub record RoundWithin : Type 0 where
    pub lent : LentWithin (received x)
    pub words : (2 ≤ length code) × (length code ≤ most_round_words)
    pub rounds : (1 ≤ x.rounds) × (x.rounds ≤ most_rounds)
    pub used : x.session.used ≡ used_rows x.terms

  pub round_within : T (round_lengths_fit x code) → RoundWithin
  round_within t =
      let h = simp (both, equals, at_most) at t in
      record {
        lent = record {
          kinds = h.0.0.0.0.0.0.0.0.0.0;
          objects = h.0.0.0.0.0.0.0.0.0.1;
          messages = h.0.0.0.0.0.0.0.0.1;
          certificates = h.0.0.0.0.0.0.0.1;
          terms = h.0.0.0.0.0.0.1;
          counter = h.0.0.0.0.0.1;
        };
        words = (h.0.0.0.0.1, h.0.0.0.1);
        rounds = (h.0.0.1, h.0.1);
        used = h.1;
      }

  -- nothing is refused before the steps
  pub record RoundPassed : Type 0 where
    pub within : RoundWithin
    pub valid : Valid (received x)
    pub good_words : bad_round_word (kind_in x.kinds) code ≡ None
    pub goes_on : x.session.round < x.rounds

  pub round_passed : first (round_refusals x code) ≡ None → RoundPassed
  round_passed e =
      let (limits, e) = first_none _ _ e in
      let (rows, e) = first_none _ _ e in
      let (holds, e) = first_none _ _ e in
      let (words, e) = first_none _ _ e in
      let (ended, e) = first_none _ _ e in
      let lengths = round_within ((twice (round_lengths_fit x code)).0 (when_none (not (round_lengths_fit x code)) (Ran Limit) limits)) in
      let fit = (both (stores_fit (received x)) (cell_fits (used_rows x.terms) x.session.answer)).0 ((twice (record_fits x code)).0 (when_none (not (record_fits x code)) (Ran BadStore) holds)) in
      let left = (fails (leb x.rounds x.session.round)).0 (when_none (leb x.rounds x.session.round) RoleEnded ended) in
      record {
        within = lengths;
        valid = record {
          within = lengths.lent;
          table = (valid_table x.terms x.session.counter).0 (map_none (λ row. Ran (BadTerm row)) (bad_term x.terms x.session.counter) rows);
          stores = (stores_valid (received x)).0 fit.0;
        };
        good_words = map_none (λ word. Ran (BadWord word)) (bad_round_word (kind_in x.kinds) code) words;
        goes_on = leb-false x.rounds x.session.round (is_false (leb x.rounds x.session.round) left);
      }

  -- what a round answers
  pub round_refused : {answer : Rounded} → first (round_refusals x code) ≡ Some answer → untouched answer x ≡ round x code
  unfolding round
  round_refused e = rw e

  pub round_stepped : first (round_refusals x code) ≡ None → round_by x code None ≡ round x code
  unfolding round
  round_stepped e = rw e

pub ruleset look-ways = (found_limit, found_term, found_store, found_word, found_turn)
