-- The reasons for which a world may say no.
use Prim.Native.Nat.{ℕ}
use mathlib.Core.Bool.{◌&&◌}
use Rattle.std.specs.Prelude.{Option, None, Some}
use lib.Dec.{T, ltb, leb}
use Rattle.answers.specs.Numbers.{reason_number}
use Rattle.answers.specs.declared.Reason.TheVariants.{Unset, NotVerified}
use Rattle.theory.specs.Outcome.{Outcome, Answer, got, not, full}
use Rattle.theory.specs.World.{World, Op, Test}
use Rattle.theory.proofs.Ends.{Any, Answers, gets, fails, fills, answers_as, Ends}
use Rattle.theory.proofs.StepEnds.{Moves}

-- an answer, an outcome, or a read of a cell fails for allowed reasons alone
abbrev pub AnswerWithin : (Allowed : ℕ → Type 0) {A : Type 0} → Answer A → Type 0
AnswerWithin Allowed {A = A} = Answers Allowed (Unit {0}) {A = A} Any

abbrev pub OutcomeWithin : (Allowed : ℕ → Type 0) {A : Type 0} → Outcome A → Type 0
OutcomeWithin Allowed {A = A} = Ends Any Allowed (Unit {0}) {A = A} Any

abbrev pub ReadWithin : (Allowed : ℕ → Type 0) {A : Type 0} → Option A → Type 0
ReadWithin Allowed (Some a) = Unit {0}
ReadWithin Allowed None = Allowed (reason_number Unset)

pub record WorldWithin (Allowed : ℕ → Type 0) (W : World) : Type 0 where
  pub apply : (o : Op W.Msg) (x : W.Mem) → AnswerWithin Allowed (W.apply o x)
  pub test : (t : Test W.Msg) (x : W.Mem) → AnswerWithin Allowed (W.test t x)
  pub parts : (m : W.Msg) (n : ℕ) (x : W.Mem) → AnswerWithin Allowed (W.parts m n x)

-- so a step moves nothing but messages
pub within_moves : {Allowed Why : ℕ → Type 0} {W : World} → ((why : ℕ) → Allowed why → Why why) → WorldWithin Allowed W
    → (x : W.Mem) → Moves Why (Unit {0}) W Any x
within_moves more within x =
    record {
      left = tt;
      applies = λ o. answers_as more (within.apply o x);
      tests = λ t. answers_as more (within.test t x);
      parts = λ m n. answers_as more (within.parts m n x);
    }

module _ {A : Type 0} where
  any_answer : (answer : Answer A) → AnswerWithin Any answer
  any_answer (got a) = gets tt
  any_answer (not why) = fails tt
  any_answer full = fills tt

  pub any_read : (cell : Option A) → ReadWithin Any cell
  any_read (Some a) = tt
  any_read None = tt

pub any_world : (W : World) → WorldWithin Any W
any_world W = record { apply = λ o x. any_answer _; test = λ t x. any_answer _; parts = λ m n x. any_answer _ }

-- one of document 01's reasons but that of an unset cell
abbrev pub OwnReason : ℕ → Type 0
OwnReason why = T (ltb (reason_number Unset) why && leb why (reason_number NotVerified))

-- a world that never says of its own that a cell is unset
abbrev pub Calm : World → Type 0
Calm W = WorldWithin OwnReason W
