-- What is found before the steps: each check in its order, and what their passing leaves true.
use Rattle.std.specs.Prelude.{Result, Ok, Err}
use Prim.Native.Nat.{ℕ}
use mathlib.Core.Path.{◌≡◌, refl, sym, ◌∙◌}
use mathlib.Core.Bool.{Bool, true, false, not, ◌&&◌}
use Rattle.std.specs.Prelude.{Option, None, Some}
use mathlib.Core.List.{List}
use native.Mathlib.Omega.{arith}
use lib.Dec.{T, eqb}
use lib.ListN.{length}
use Rattle.word.proofs.TestLaws.{both, twice, equals, is_false}
use Rattle.answers.specs.declared.Ran.{Ran}
use Rattle.answers.specs.declared.Ran.TheVariants.{Limit, BadTerm, BadStore, BadWord}
use Rattle.code.specs.Words.{bad_word}
use Rattle.terms.specs.Rules.{used_rows, bad_term, checked_by}
use Rattle.stores.specs.Valid.{valid}
use Rattle.answers.specs.First.{first}
use Rattle.numbers.specs.Kinds.{kind_in}
use Rattle.numbers.specs.Limits.{variables, message_cells}
use Rattle.calls.specs.Run.{Lent, unchanged, lengths_fit, refusals, run_by, run}
use Rattle.calls.proofs.CompileLaws.{first_none, when_none, map_none}
use Rattle.calls.proofs.RunLaws.{stores_fit, Passed, run_within}
use Rattle.looking.specs.Found.{used_with, found_by}
use Rattle.looking.specs.declared.Refused.{Refused}

pub true_holds : {b : Bool} → b ≡ true → T b
true_holds e = rw e tt

-- the table's check
module _ (rows : List ℕ) {answer : Result ℕ ℕ} where
  pub checked_bad : (o : Option ℕ) {row : ℕ} → answer ≡ checked_by o rows → answer ≡ Err row → o ≡ Some row
  checked_bad (Some other) e q = cc
  checked_bad None e q = absurd (let z : ◌≡◌ {A = ℕ} 0 1 = cc in omega arith)

  pub checked_used : (o : Option ℕ) {count : ℕ} → answer ≡ checked_by o rows → answer ≡ Ok count → (o ≡ None) × (count ≡ used_rows rows)
  checked_used None e q = (refl, cc)
  checked_used (Some other) e q = absurd (let z : ◌≡◌ {A = ℕ} 0 1 = cc in omega arith)

module _ (rows : List ℕ) where
  pub found_some : (o : Option Ran) {refused : Refused} → Err refused ≡ found_by o rows → (o ≡ Some refused.answer) × (refused.used ≡ used_with refused.answer rows)
  found_some (Some other) {refused} e = let same : refused ≡ record { answer = other; used = used_with other rows } = cc in rw same (refl, refl)
  found_some None e = absurd (let z : ◌≡◌ {A = ℕ} 0 1 = cc in omega arith)

  pub found_none : (o : Option Ran) {used : ℕ} → Ok used ≡ found_by o rows → (o ≡ None) × (used ≡ used_rows rows)
  found_none None e = (refl, cc)
  found_none (Some other) e = absurd (let z : ◌≡◌ {A = ℕ} 0 1 = cc in omega arith)

module _ (x : Lent) (code : List ℕ) where
  abbrev finding : Result ℕ Refused
  finding = found_by (first (refusals x code)) x.terms

  abbrev pub cells_whole : Bool
  cells_whole = eqb (length x.objects) variables && eqb (length x.messages) message_cells

  pub whole_cells : cells_whole ≡ true → (length x.objects ≡ variables) × (length x.messages ≡ message_cells)
  whole_cells e = simp (both, equals) at (true_holds e)

  -- each check, as look comes to it
  pub found_limit : {fit : Bool} → fit ≡ lengths_fit x code → fit ≡ false → Err (record { answer = Limit; used = 0 }) ≡ finding
  unfolding first
  found_limit said e = rw (sym said ∙ e)

  module _ {fit : Bool} (said : fit ≡ lengths_fit x code) (fits : fit ≡ true) where
    module _ {checked : Result ℕ ℕ} (rows : checked ≡ checked_by (bad_term x.terms x.counter) x.terms) where
      pub found_term : {row used : ℕ} → checked ≡ Err row → used ≡ used_rows x.terms → Err (record { answer = BadTerm row; used = used }) ≡ finding
      unfolding first
      found_term is counted = rw (sym said ∙ fits, checked_bad x.terms _ rows is, counted)

      module _ {used : ℕ} (is : checked ≡ Ok used) where
        module _ {stores : Bool} (same : stores ≡ valid x.terms used x.kinds x.objects x.messages x.certificates x.accumulator) where
          pub found_store : stores ≡ false → Err (record { answer = BadStore; used = used }) ≡ finding
          unfolding first
          found_store e = let p = checked_used x.terms _ rows is in rw (sym said ∙ fits, p.0, ← p.1, sym same ∙ e) (rw p.1)

          module _ (hold : stores ≡ true) {word : Option ℕ} (words : word ≡ bad_word (kind_in x.kinds) code) where
            pub found_word : {place : ℕ} → word ≡ Some place → Err (record { answer = BadWord place; used = used }) ≡ finding
            unfolding first
            found_word e = let p = checked_used x.terms _ rows is in rw (sym said ∙ fits, p.0, ← p.1, sym same ∙ hold, sym words ∙ e) (rw p.1)

            pub found_accepted : word ≡ None → Ok used ≡ finding
            unfolding first
            found_accepted e = let p = checked_used x.terms _ rows is in rw (sym said ∙ fits, p.0, ← p.1, sym same ∙ hold, sym words ∙ e) (rw p.1)

  -- what run answers
  pub run_refused_lem : {answer : Ran} → first (refusals x code) ≡ Some answer → unchanged answer x ≡ run x code
  unfolding run
  run_refused_lem e = rw e

  -- 1, by the lengths of the cells
  pub run_limit : cells_whole ≡ false → unchanged Limit x ≡ run x code
  run_limit short = run_refused_lem (found_some x.terms _ (found_limit refl (is_false (lengths_fit x code) λ t. rw short at (whole t)))).0
    where
      whole : T (lengths_fit x code) → T cells_whole
      whole t = let within = ((run_within x code).0 t).0 in simp (both, equals) (within.objects, within.messages)

  pub run_stepped : first (refusals x code) ≡ None → run_by x code None ≡ run x code
  unfolding run
  run_stepped e = rw e

  -- every check passed
  pub passed : first (refusals x code) ≡ None → Passed x code
  passed e =
      let (limits, e) = first_none _ _ e in
      let (rows, e) = first_none _ _ e in
      let (stores, e) = first_none _ _ e in
      let (words, e) = first_none _ _ e in
      record {
        lengths = (twice (lengths_fit x code)).0 (when_none (not (lengths_fit x code)) Limit limits);
        rows = map_none BadTerm (bad_term x.terms x.counter) rows;
        stores = (twice (stores_fit x)).0 (when_none (not (stores_fit x)) BadStore stores);
        words = map_none BadWord (bad_word (kind_in x.kinds) code) words;
      }

pub ruleset look-ways = (found_limit, found_term, found_store, found_word, found_accepted)
