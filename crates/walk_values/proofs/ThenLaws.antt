-- One rule after another, by the first one's answer.
use Rattle.std.specs.Prelude.{Err, Ok}
use Rattle.std.specs.Result.{IsErrAnd}
use Prim.Native.Nat.{ℕ, ◌≤◌}
use mathlib.Core.Path.{◌≡◌, refl, sym, ap}
use native.Mathlib.Omega.{arith}
use lib.ListN.{length}
use Rattle.stores.specs.Cells.{unset}
use Rattle.theory.specs.Outcome.{Outcome, done, stuck, room, bind}
use Rattle.theory.specs.RowModel.{row_world}
use Rattle.theory.specs.Machine.{Stores}
use Rattle.machine.specs.Machine.{Slices, Within}
use Rattle.walks.specs.Walks.{Walked, stores_at, Kept, Onward, Comes, goes, sticks, fills}
use Rattle.walks.specs.declared.Walk.{Walk}
use Rattle.walks.specs.declared.Ended.{Ended}
use Rattle.walks.proofs.ComesLaws.{then_goes}
use Rattle.walks.proofs.AskedLaws.{passes}

-- what only hands on is no step
pub done_then : {A B C : Type 0} (o : Outcome A) (g : A → B) (f : B → Outcome C) → bind o (λ a. f (g a)) ≡ bind (bind o (λ a. done (g a))) f
done_then (done a) g f = refl
done_then (stuck place why) g f = refl
done_then (room place) g f = refl

module _ {A : Type 0} {seen : ℕ → Stores row_world → A} {used : ℕ} {before : Slices} where
  onward : {o : Outcome A} {w : Walk} {mid : Slices} → Comes seen used before o (Ok w) mid → Onward used w mid
  onward (goes e on kept) = on

  done_as : {o : Outcome A} {w : Walk} {mid : Slices} → Comes seen used before o (Ok w) mid → o ≡ done (seen w.message.0 (stores_at w mid))
  done_as (goes e on kept) = ap done (sym e)

  kept : {o : Outcome A} {answer : Walked} {mid : Slices} → Comes seen used before o answer mid → Kept used before mid
  kept (goes e on k) = k
  kept (sticks e k) = k
  kept (fills k) = k

  module _ {o : Outcome A} {mid : Slices} {first : Walked} (h : Comes seen used before o first mid) where
    pub next_kept : Kept used before mid
    next_kept = kept h

    module _ {w : Walk} (e : first ≡ Ok w) where
      next_comes : Comes seen used before o (Ok w) mid
      next_comes = rw e at h

      pub next_done : o ≡ done (seen w.message.0 (stores_at w mid))
      next_done = done_as next_comes

      pub next_more : used ≤ w.used
      next_more = (onward next_comes).more

      pub next_message : w.message.0 ≡ unset → ⊥
      next_message = (onward next_comes).message

      pub next_within : Within before.rows used → Within mid.rows w.used
      next_within within =
          let long : length mid.rows ≡ length before.rows = (kept next_comes).lengths.rows_length in
          record { used_rows_lem = (onward next_comes).inside; few_rows = omega (arith, long, within.few_rows) }

    module _ {B : Type 0} {later : ℕ → Stores row_world → B} (f : A → Outcome B) where
      pub after_ended : {ended : Ended} {answer : Walked} → first ≡ Err ended → IsErrAnd answer (λ e. e ≡ ended) → Comes later used before (bind o f) answer mid
      after_ended e raise = passes f e raise h

      pub after_next : {w : Walk} {answer : Walked} {after : Slices} → first ≡ Ok w
          → Comes later w.used mid (f (seen w.message.0 (stores_at w mid))) answer after → Comes later used before (bind o f) answer after
      after_next e later = then_goes f (next_comes e) later
