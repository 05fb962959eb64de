-- How a walk comes to what a rule comes to: a read, what an operation answers, and one rule after another.
use Prim.Native.Nat.{ℕ, ◌≤◌}
use mathlib.Core.Path.{◌≡◌, refl, sym, ap, ◌∙◌}
use Rattle.std.specs.Prelude.{Option, None, Some, Err, Ok}
use mathlib.Core.List.{List}
use native.Mathlib.Nat.{le_trans}
use lib.ListN.{take}
use lib.Seq.{take-take}
use Rattle.answers.specs.Numbers.{reason_number}
use Rattle.answers.specs.declared.Reason.{Reason}
use Rattle.answers.specs.declared.Reason.TheVariants.{Unset}
use Rattle.answers.proofs.NumberLaws.{reason_known}
use Rattle.theory.specs.Outcome.{Outcome, bind, at, need, free, Answer, got, not, full}
use Rattle.theory.specs.RowModel.{row_world}
use Rattle.theory.specs.Machine.{Stores}
use Rattle.machine.specs.Machine.{Slices}
use Rattle.machine.proofs.AgreeLaws.{same_lengths}
use Rattle.walks.specs.Walks.{Walked, stores_at, Kept, Comes, goes, sticks, fills}
use Rattle.walks.specs.declared.Walk.{Walk}
use Rattle.walks.specs.declared.Ended.{Ended}
use Rattle.walks.specs.declared.Ended.TheVariants.{Stuck, NoRoom}

pub kept_same : {used : ℕ} {x : Slices} → Kept used x x
kept_same {x = x} = record { lengths = same_lengths x; rows = refl }

module _ {A : Type 0} {seen : ℕ → Stores row_world → A} {used : ℕ} {before after : Slices} {answer : Walked} (row : ℕ) where
  -- a cell that is set, and one that is not
  pub reads : {o : Option ℕ} {m : ℕ} (f : ℕ → Outcome A) → o ≡ Some m → Comes seen used before (f m) answer after → Comes seen used before (bind (need row o) f) answer after
  reads f e h = rw e h

  pub frees : {o : Option ℕ} (f : Unit {0} → Outcome A) → o ≡ None → Comes seen used before (f tt) answer after → Comes seen used before (bind (free row o) f) answer after
  frees f e h = rw e h

  -- an operation that gives a value
  pub gets : {B : Type 0} {result : Answer B} {b : B} (f : B → Outcome A)
      → result ≡ got b → Comes seen used before (f b) answer after → Comes seen used before (bind (at row result) f) answer after
  gets f e h = rw e h

  pub answers_as : {B : Type 0} {result other : Answer B} (f : B → Outcome A)
      → result ≡ other → Comes seen used before (bind (at row other) f) answer after → Comes seen used before (bind (at row result) f) answer after
  answers_as f e h = rw e h

module _ {A : Type 0} {seen : ℕ → Stores row_world → A} {used : ℕ} {before : Slices} (row : ℕ) where
  pub unset_sticks : {o : Option ℕ} (f : ℕ → Outcome A) → o ≡ None → Comes seen used before (bind (need row o) f) (Err (Stuck row Unset)) before
  unset_sticks f e = rw e (sticks refl kept_same)

  pub set_sticks : {o : Option ℕ} {m : ℕ} (f : Unit {0} → Outcome A) → o ≡ Some m → Comes seen used before (bind (free row o) f) (Err (Stuck row Unset)) before
  set_sticks f e = rw e (sticks refl kept_same)

  pub not_sticks : {B : Type 0} {result : Answer B} {reason : Reason} (f : B → Outcome A)
      → result ≡ not (reason_number reason) → Comes seen used before (bind (at row result) f) (Err (Stuck row reason)) before
  not_sticks {reason = reason} f e = rw e (sticks (reason_known reason) kept_same)

  pub full_fills : {B : Type 0} {result : Answer B} {after : Slices} (f : B → Outcome A)
      → result ≡ full → Kept used before after → Comes seen used before (bind (at row result) f) (Err (NoRoom row)) after
  full_fills f e kept = rw e (fills kept)

-- less is kept of what more is kept of
take_less : (few many : ℕ) (rows other : List ℕ) → few ≤ many → take many rows ≡ take many other → take few rows ≡ take few other
take_less few many rows other less e = sym (take-take few many rows less) ∙ ap (take few) e ∙ take-take few many other less

pub kept_then : {used more : ℕ} {before mid after : Slices} → used ≤ more → Kept used before mid → Kept more mid after → Kept used before after
kept_then {used} {more} {before} {mid} {after} less one other = record {
  lengths = record {
    objects_length = other.lengths.objects_length ∙ one.lengths.objects_length;
    messages_length = other.lengths.messages_length ∙ one.lengths.messages_length;
    rows_length = other.lengths.rows_length ∙ one.lengths.rows_length;
  };
  rows = take_less used more after.rows mid.rows less other.rows ∙ one.rows;
}

-- what goes on from a place in between
pub comes_after : {B : Type 0} {later : ℕ → Stores row_world → B} {used : ℕ} {before mid after : Slices} (more : ℕ) {p : Outcome B} {answer : Walked}
    → used ≤ more → Kept used before mid → Comes later more mid p answer after → Comes later used before p answer after
comes_after more less kept (goes e on k) =
    goes e (record { message = on.message; more = le_trans less on.more; inside = on.inside }) (kept_then less kept k)
comes_after more less kept (sticks e k) = sticks e (kept_then less kept k)
comes_after more less kept (fills k) = fills (kept_then less kept k)

-- one rule after another: what the first comes to is where the second begins
pub then_goes : {A B : Type 0} {seen : ℕ → Stores row_world → A} {later : ℕ → Stores row_world → B} {used : ℕ} {before mid after : Slices} {o : Outcome A} (f : A → Outcome B)
    {w : Walk} {answer : Walked} → Comes seen used before o (Ok w) mid
    → Comes later w.used mid (f (seen w.message.0 (stores_at w mid))) answer after → Comes later used before (bind o f) answer after
then_goes f {w = w} (goes e on kept) h = comes_after w.used on.more kept (rw e at h)

pub then_ends : {A B : Type 0} {seen : ℕ → Stores row_world → A} {later : ℕ → Stores row_world → B} {used : ℕ} {before mid : Slices} {o : Outcome A} (f : A → Outcome B)
    {ended : Ended} → Comes seen used before o (Err ended) mid → Comes later used before (bind o f) (Err ended) mid
then_ends f (sticks e kept) = sticks e kept
then_ends f (fills kept) = fills kept

-- the same rule, said otherwise
pub comes_as : {A : Type 0} {seen : ℕ → Stores row_world → A} {used : ℕ} {before after : Slices} {o p : Outcome A} {answer : Walked}
    → o ≡ p → Comes seen used before p answer after → Comes seen used before o answer after
comes_as e h = rw e h
