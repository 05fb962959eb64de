-- From what theory says of a run of compiled code to: exactly when.
use Prim.Native.Nat.{ℕ}
use mathlib.Core.Path.{◌≡◌, refl, sym, ◌∙◌, ap, subst}
use mathlib.Core.Bool.{true, false}
use Rattle.std.specs.Prelude.{Option, None, Some}
use Rattle.std.specs.Option.{option_map}
use mathlib.Core.List.{List}
use native.Mathlib.Omega.{arith}
use lib.ListN.{length}
use Rattle.answers.specs.declared.Ran.TheVariants as Ran
use Rattle.stores.specs.Cells.{held, store_of}
use Rattle.patterns.specs.Kinds.{RightKinds}
use Rattle.patterns.specs.Tree.{pattern_of}
use Rattle.theory.specs.TermModel.{Term}
use Rattle.theory.specs.Outcome.{Outcome, done, stuck, room}
use Rattle.theory.specs.Figure2.{TermStores}
use Rattle.numbers.specs.Kinds.{kind_in}
use Rattle.calls.specs.Run.{Lent, RunOutcome, state_over, state_of, left_by, run}
use Rattle.theory.specs.Meaning.{meaning}
use Rattle.theory.proofs.MatchingRules.{matches_is_done}
use Rattle.theory.proofs.CreatingRules.{creates_is_done}
use Rattle.theory.proofs.Room.{Free}
use Rattle.theory.proofs.RowsRunAsTerms.{terms_of}
use Rattle.calls.proofs.Demand3.{MatchEnds, CreateEnds}
use Rattle.calls.proofs.Theorems.{demand_3_matching, demand_3_creating}
use Rattle.promises.specs.Reading.{term_in, after, message_before, message_after}
use Rattle.promises.specs.Conditions.{Room}
use Rattle.promises.specs.Demand3.{Prepared, MatchesTo, CreatesTo, DecidesMatch, DecidesCreation}
use Rattle.promises.proofs.CodeLaws.{right_kinds, own_answer, own_words}
use Rattle.promises.proofs.RunLaws.{finished}
use Rattle.promises.proofs.ReadingLaws.{after_finish, message_finish}

pub enough : {x : Lent} {count : ℕ} → Room x count → Free count count (state_of x).stores.memory
unfolding state_over
enough r = (r.rows, r.names)

pub roomy : {x : Lent} {count : ℕ} → Free count count (state_of x).stores.memory → Room x count
unfolding state_over
roomy f = record { rows = f.0; names = f.1 }

-- figure 2 gives one end
module _ (pattern : List ℕ) (x : Lent) (m : Term) (code : List ℕ) (right : RightKinds false (kind_in x.kinds) (pattern_of pattern)) where
  match_once : (n n' : TermStores) → MatchesTo pattern x m n → MatchesTo pattern x m n' → n ≡ n'
  match_once n n' h g =
      let d = matches_is_done (kind_in x.kinds) right h in
      let e = matches_is_done (kind_in x.kinds) right g in
      cc

  match_decides : {o : RunOutcome} → run x code ≡ o → MatchEnds x (pattern_of pattern) m (length code) code o → DecidesMatch pattern x code m
  unfolding state_over store_of left_by
  match_decides e (MatchEnds.finishes t steps v h) =
      let left : after x (run x code) ≡ (terms_of t).stores = ap (after x) e ∙ after_finish (finished x code (rw e)).passed t steps (Ran.Done (length code)) in
      record {
        finishes = λ n. (λ g. (rw e (refl, refl, refl), left ∙ match_once (terms_of t).stores n h g), λ q. subst (MatchesTo pattern x m) (sym left ∙ q.1) h);
        stuck = (λ q. absurd (omega (arith, rw e at q)), λ never. absurd (never (terms_of t).stores h));
        room = λ q. omega (arith, rw e at q);
      }
  match_decides e (MatchEnds.sticks place reason never) =
      record {
        finishes = λ n. (λ g. absurd (never n g), λ q. absurd (omega (arith, rw e at q.0.0)));
        stuck = (λ q. never, λ q. rw e);
        room = λ q. omega (arith, rw e at q);
      }

-- and figure 3
module _ (pattern : List ℕ) (x : Lent) (code : List ℕ) (right : RightKinds true (kind_in x.kinds) (pattern_of pattern)) where
  create_once : (m m' : Term) (n n' : TermStores) → CreatesTo pattern x m n → CreatesTo pattern x m' n' → (m ≡ m') × (n ≡ n')
  create_once m m' n n' h g =
      let same : ◌≡◌ {A = Outcome (Term × TermStores)} (done (m, n)) (done (m', n')) = sym (creates_is_done (kind_in x.kinds) right h) ∙ creates_is_done (kind_in x.kinds) right g in
      (ap (λ o. (made o).0) same, ap (λ o. (made o).1) same)
    where
      made : Outcome (Term × TermStores) → Term × TermStores
      made (done a) = a
      made (stuck place why) = (m, n)
      made (room place) = (m, n)

  create_decides : {o : RunOutcome} → run x code ≡ o → CreateEnds x (pattern_of pattern) (length code) code o → DecidesCreation pattern x code
  unfolding state_over store_of left_by
  create_decides e (CreateEnds.finishes t m steps v message h) =
      let p = (finished x code (rw e)).passed in
      let left : after x (run x code) ≡ (terms_of t).stores = ap (after x) e ∙ after_finish p t steps (Ran.Done (length code)) in
      let held : message_after (run x code) ≡ Some m = ap message_after e ∙ message_finish p t steps (Ran.Done (length code)) ∙ message in
      record {
        finishes = λ m' n. (
          λ g. let same = create_once m m' (terms_of t).stores n h g in (rw e (refl, refl, refl), held ∙ ap Some same.0, left ∙ same.1),
          λ q. let same : m ≡ m' = cc q.1 in subst (λ m. CreatesTo pattern x m n) same (subst (CreatesTo pattern x m) (sym left ∙ q.2) h),
        );
        stuck = (λ q. absurd (omega (arith, rw e at q)), λ never. absurd (never m (terms_of t).stores h));
        room = λ q. omega (arith, rw e at q);
      }
  create_decides e (CreateEnds.sticks place reason never) =
      record {
        finishes = λ m n. (λ g. absurd (never m n g), λ q. absurd (omega (arith, rw e at q.0.0)));
        stuck = (λ q. never, λ q. rw e);
        room = λ q. omega (arith, rw e at q);
      }

-- the accumulator's row
pub held_row : (terms : List ℕ) (cell : ℕ) (m : Term) → term_in terms cell ≡ Some m → (row : ℕ) × (held cell ≡ Some row) × (meaning terms row ≡ m)
held_row terms cell m e = go (held cell) refl e
  where
    go : (o : Option ℕ) → held cell ≡ o → option_map (meaning terms) o ≡ Some m → (row : ℕ) × (held cell ≡ Some row) × (meaning terms row ≡ m)
    go None h q = absurd (let z : ◌≡◌ {A = ℕ} 0 1 = cc in omega arith)
    go (Some row) h q = (row, h, cc)

pub decided_match : {pattern code : List ℕ} {x : Lent} {m : Term} → Prepared false pattern x code → message_before x ≡ Some m → DecidesMatch pattern x code m
decided_match {pattern} {code} {x} {m} p e =
    let c = p.compiled in
    let v = p.valid in
    let long = v.within.kinds in
    let message = held_row x.terms x.accumulator m e in
    match_decides pattern x m code (right_kinds c long) refl
    (subst (λ m. MatchEnds x (pattern_of pattern) m (length code) code (run x code)) message.2
    (subst (λ words. MatchEnds x (pattern_of pattern) (meaning x.terms message.0) (length code) words (run x words)) (own_words c long)
    (demand_3_matching pattern c.slice x v (length code) message.0 message.1 (own_answer c long) (enough p.room))))

pub decided_creation : {pattern code : List ℕ} {x : Lent} → Prepared true pattern x code → DecidesCreation pattern x code
decided_creation {pattern} {code} {x} p =
    let c = p.compiled in
    let v = p.valid in
    let long = v.within.kinds in
    create_decides pattern x code (right_kinds c long) refl
    (subst (λ words. CreateEnds x (pattern_of pattern) (length code) words (run x words)) (own_words c long)
    (demand_3_creating pattern c.slice x v (length code) (own_answer c long) (enough p.room)))
