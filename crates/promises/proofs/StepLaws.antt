-- How a step and a run end: done, with no named cell past the last written; or at a place, stuck for one of document 01's reasons or out of room.
use Prim.Native.Nat.{ℕ, zero, suc, ◌≤◌}
use mathlib.Core.Path.{◌≡◌, refl}
use mathlib.Core.List.{List}
use native.Mathlib.Omega.{arith}
use lib.Dec.{ltb, leb}
use Rattle.word.proofs.TestLaws.{both, is_below, at_most}
use Rattle.answers.specs.Numbers.{reason_number, reason_of}
use Rattle.answers.specs.declared.Reason.TheVariants.{Unset}
use Rattle.code.specs.declared.Instruction.{Instruction}
use Rattle.theory.specs.Outcome.{Outcome, done, stuck, room}
use Rattle.theory.specs.World.{World}
use Rattle.theory.specs.Machine.{Line, State, step, exec}
use Rattle.theory.proofs.Ends.{Any}
use Rattle.theory.proofs.Ends as Outcomes
use Rattle.theory.proofs.StepEnds.{Moves, Leaves}
use Rattle.theory.proofs.StepEnds as Steps
use Rattle.theory.proofs.Reasons.{OwnReason, Calm, within_moves}
pub use Rattle.theory.proofs.StepEnds.{KeptPast}

-- one of document 01's reasons
abbrev pub Reasoned : ℕ → Type 0
Reasoned why = (1 ≤ why) × (why ≤ 7)

own_reasoned : (why : ℕ) → OwnReason why → Reasoned why
own_reasoned why own =
    let h = (both (ltb 1 why) (leb why 7)).0 own in
    let above = (is_below 1 why).0 h.0 in
    (omega arith, (at_most why 7).0 h.1)

unset : Reasoned (reason_number Unset)
unset = omega arith

-- a reason and its number
pub reason_back : (why : ℕ) → Reasoned why → reason_number (reason_of why) ≡ why
reason_back zero r = absurd (omega arith)
reason_back (suc zero) r = refl
reason_back (suc (suc zero)) r = refl
reason_back (suc (suc (suc zero))) r = refl
reason_back (suc (suc (suc (suc zero)))) r = refl
reason_back (suc (suc (suc (suc (suc zero))))) r = refl
reason_back (suc (suc (suc (suc (suc (suc zero)))))) r = refl
reason_back (suc (suc (suc (suc (suc (suc (suc zero))))))) r = refl
reason_back (suc (suc (suc (suc (suc (suc (suc (suc why)))))))) r = absurd (omega arith)

-- a step ends at its own place
module _ {A : Type 0} (place : ℕ) (P : A → Type 0) where
  pub data Ends : Outcome A → Type 0 where
    goes : {a : A} → P a → Ends (done a)
    sticks : {why : ℕ} → Reasoned why → Ends (stuck place why)
    fills : Ends (room place)

module _ {W : World} (calm : Calm W) (kind : ℕ → ℕ) where
  moves : (x : W.Mem) → Moves Reasoned (Unit {0}) W Any x
  moves = within_moves own_reasoned calm

  pub step_ends : (place : ℕ) (s : State W) (i : Instruction) → Ends place (KeptPast W s) (step W kind place i s)
  step_ends place s i = own (Steps.step_ends {At = λ p. p ≡ place} unset kind place refl s (moves s.stores.memory) i)
    where
      own : {o : Outcome (State W)} → Outcomes.Ends (λ p. p ≡ place) Reasoned (Unit {0}) (Leaves W Any s) o → Ends place (KeptPast W s) o
      own (Outcomes.ends left) = goes left.past
      own (Outcomes.sticks {why = why} here r) = rw here (sticks {why = why} r)
      own (Outcomes.overflows here f) = rw here fills

  -- of a run
  exec_ends : (code : List Line) (s : State W) → Outcomes.Ends Any Reasoned (Unit {0}) (Leaves W Any s) (exec W kind code s)
  exec_ends code s = Steps.exec_ends unset kind (λ place. tt) (λ x _. moves x) code s tt

  pub exec_reasoned : (code : List Line) (s : State W) {place why : ℕ} → exec W kind code s ≡ stuck place why → Reasoned why
  exec_reasoned code s {place} {why} e = reason (rw e at (exec_ends code s))
    where
      reason : Outcomes.Ends Any Reasoned (Unit {0}) (Leaves W Any s) (stuck place why) → Reasoned why
      reason (Outcomes.sticks _ r) = r
