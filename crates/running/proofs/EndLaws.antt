-- What a run leaves: a refusal what was lent, and the steps their cells where they are done.
use Prim.Native.Nat.{ℕ, ◌<◌}
use mathlib.Core.Path.{◌≡◌, refl, sym, ◌∙◌, ap}
use mathlib.Core.Bool.{not}
use Rattle.std.specs.Prelude.{Option, None, Some, Result, Ok, Err}
use mathlib.Core.List.{List, []}
use native.Mathlib.Omega.{arith}
use borrow.Author.Tests.{eq-eqb, ne_eqb}
use lib.Dec.{T}
use lib.ListN.{length, take}
use Rattle.answers.specs.Numbers.{ran_number}
use Rattle.answers.specs.declared.Ran.{Ran}
use Rattle.answers.specs.declared.Ran.TheVariants.{Done, Limit, BadTerm, BadStore, BadWord, Stuck, NoRoom}
use Rattle.answers.specs.First.{first}
use Rattle.code.specs.Words.{bad_word}
use Rattle.numbers.specs.Kinds.{kind_in}
use Rattle.terms.specs.Rules.{used_rows, bad_term}
use Rattle.theory.specs.Outcome.{Outcome, done, stuck, room}
use Rattle.theory.specs.RowModel.{row_world}
use Rattle.theory.specs.Machine.{State}
use Rattle.calls.specs.Run.{Lent, unchanged, lengths_fit, left_by, ended, refusals, run_by, run}
use Rattle.calls.proofs.CompileLaws.{first_some, when_some, map_some, passes_when}
use Rattle.calls.proofs.RunLaws.{stores_fit, steps_of}
use Rattle.execution.specs.Steps.{cells_after, Ready}
use Rattle.looking.specs.Found.{used_with, found_by}
use Rattle.looking.specs.Front.{Front}
use Rattle.looking.specs.declared.Refused.{Refused}
use Rattle.looking.proofs.LookLaws.{found_some, found_none, run_refused_lem, run_stepped, passed}
use Rattle.looking.proofs.FrontLaws.{cut_to, found_same}
use Rattle.running.proofs.ReadyLaws.{accumulator_small, ready}

-- an answer that is not done has another number
pub not_done : (answer : Ran) → ((words : ℕ) → answer ≡ Done words → ⊥) → ran_number answer ≡ 0 → ⊥
not_done (Done words) other e = other words refl
not_done Limit other e = omega arith
not_done (BadTerm row) other e = omega arith
not_done BadStore other e = omega arith
not_done (BadWord word) other e = omega arith
not_done (Stuck place reason) other e = omega arith
not_done (NoRoom place) other e = omega arith

module _ (x : Lent) (code : List ℕ) where
  -- steps never end in 1
  not_limit : (o : Outcome (State row_world)) → ran_number (ended (length code) x o).answer ≡ 1 → ⊥
  unfolding left_by
  not_limit (done s) e = omega arith
  not_limit (stuck place why) e = omega arith
  not_limit (room place) e = omega arith

  -- what was found over the front of the table
  module _ {front : ℕ} (cut : Front x.terms front) {found : Result ℕ Refused}
      (looked : found ≡ found_by (first (refusals (cut_to front x) code)) (take front x.terms)) where
    pub run_refused : {refused : Refused} → found ≡ Err refused → (unchanged refused.answer x ≡ run x code) × (refused.used ≡ used_with refused.answer x.terms)
    run_refused is = let why = found_some x.terms _ (sym is ∙ looked ∙ found_same x code cut) in (run_refused_lem x code why.0, why.1)

    module _ {used : ℕ} (is : found ≡ Ok used) where
      goes_on : (first (refusals x code) ≡ None) × (used ≡ used_rows x.terms)
      goes_on = found_none x.terms _ (sym is ∙ looked ∙ found_same x code cut)

      pub start_small : x.accumulator < 65536
      start_small = accumulator_small (passed x code goes_on.0)

      pub start_ready : Ready x used code
      start_ready = ready (passed x code goes_on.0) goes_on.1

      -- cells that the steps left, by the answer
      module _ {answer : Ran} (objects messages : List ℕ) {terms : List ℕ} {accumulator after counter : ℕ}
          (left : (record {
            answer = answer;
            objects = cells_after answer x.objects objects;
            messages = cells_after answer x.messages messages;
            accumulator = accumulator;
            terms = terms;
            counter = counter;
          } ≡ run_by x code None) × (after ≡ used_rows terms)) where
        used_after : after ≡ used_with answer terms
        used_after = rw (ne_eqb (ran_number answer) 1 λ one. not_limit (steps_of x code) (ap (λ o. ran_number o.answer) (sym left.0) ∙ one)) left.1

        pub run_done : {words : ℕ} → answer ≡ Done words
            → (record { answer = answer; objects = objects; messages = messages; accumulator = accumulator; terms = terms; counter = counter } ≡ run x code)
            × (after ≡ used_with answer terms)
        run_done ends = (rw (eq-eqb (ran_number answer) 0 (ap ran_number ends)) at left.0 ∙ run_stepped x code goes_on.0, used_after)

        pub run_not_done : ((words : ℕ) → answer ≡ Done words → ⊥)
            → (record { answer = answer; objects = x.objects; messages = x.messages; accumulator = accumulator; terms = terms; counter = counter } ≡ run x code)
            × (after ≡ used_with answer terms)
        run_not_done other = (rw (ne_eqb (ran_number answer) 0 (not_done answer other)) at left.0 ∙ run_stepped x code goes_on.0, used_after)

-- where the lengths fit, the used rows that come back are those of the table
module _ (x : Lent) (code : List ℕ) (fits : T (lengths_fit x code)) where
  abbrev NotLimit : Ran → Type 0
  NotLimit answer = ran_number answer ≡ 1 → ⊥

  nothing_more : (answer : Ran) → first [] ≡ Some answer → NotLimit answer
  unfolding first
  nothing_more answer e = absurd (let z : ◌≡◌ {A = ℕ} 0 1 = cc in omega arith)

  refused_otherwise : (answer : Ran) → first (refusals x code) ≡ Some answer → NotLimit answer
  refused_otherwise =
      first_some NotLimit _ _ (λ answer e. absurd (let z : ◌≡◌ {A = ℕ} 0 1 = let q = passes_when (lengths_fit x code) Limit fits in cc in omega arith))
      (first_some NotLimit _ _ (map_some BadTerm NotLimit (λ row e. omega arith) (bad_term x.terms x.counter))
      (first_some NotLimit _ _ (when_some NotLimit (not (stores_fit x)) BadStore (λ e. omega arith))
      (first_some NotLimit _ _ (map_some BadWord NotLimit (λ word e. omega arith) (bad_word (kind_in x.kinds) code)) nothing_more)))

  by : (o : Option Ran) → first (refusals x code) ≡ o → NotLimit (run_by x code o).answer
  by (Some answer) e = refused_otherwise answer e
  by None e = not_limit x code (steps_of x code)

  pub used_counted : {used : ℕ} → used ≡ used_with (run x code).answer (run x code).terms → used ≡ used_rows (run x code).terms
  unfolding run
  used_counted is = rw (ne_eqb (ran_number (run x code).answer) 1 (by (first (refusals x code)) refl)) at is

-- what was lent, with other cells
abbrev pub with_cells : Lent → List ℕ → List ℕ → Lent
with_cells x objects messages = record {
  kinds = x.kinds;
  objects = objects;
  messages = messages;
  certificates = x.certificates;
  accumulator = x.accumulator;
  terms = x.terms;
  counter = x.counter;
}

-- a run on copies of the cells, copied back
pub copied_back : (x : Lent) (code : List ℕ) {answer : Ran} {objects messages objects' messages' objects'' messages'' terms : List ℕ} {accumulator counter : ℕ}
    → objects ≡ x.objects → messages ≡ x.messages
    → record { answer = answer; objects = objects'; messages = messages'; accumulator = accumulator; terms = terms; counter = counter } ≡ run (with_cells x objects messages) code
    → objects'' ≡ objects' → messages'' ≡ messages'
    → record { answer = answer; objects = objects''; messages = messages''; accumulator = accumulator; terms = terms; counter = counter } ≡ run x code
copied_back x code o m e o' m' = rw (o', m') (rw (o, m) at e)
