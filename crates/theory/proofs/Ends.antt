-- How an operation answers and how a part of a run ends: a property of what there is, the reasons and the places at which it may be stuck, and whether it may be out of room.
use Prim.Native.Nat.{ℕ}
use mathlib.Core.Bool.{Bool, true, false}
use Rattle.std.specs.Prelude.{Option, None, Some}
use Rattle.answers.specs.Numbers.{reason_number}
use Rattle.answers.specs.declared.Reason.TheVariants.{Unset}
use Rattle.theory.specs.Outcome.{Outcome, done, stuck, room, bind, Answer, got, not, full, and_then, sure, at, need}

abbrev pub Any : {A : Type 0} → A → Type 0
Any a = Unit {0}

module _ (Why : ℕ → Type 0) (Full : Type 0) {A : Type 0} (P : A → Type 0) where
  pub data Answers : Answer A → Type 0 where
    gets : {a : A} → P a → Answers (got a)
    fails : {why : ℕ} → Why why → Answers (not why)
    fills : Full → Answers full

module _ (At Why : ℕ → Type 0) (Full : Type 0) {A : Type 0} (P : A → Type 0) where
  pub data Ends : Outcome A → Type 0 where
    ends : {a : A} → P a → Ends (done a)
    sticks : {place why : ℕ} → At place → Why why → Ends (stuck place why)
    overflows : {place : ℕ} → At place → Full → Ends (room place)

module _ {Why Why' : ℕ → Type 0} {Full : Type 0} {A : Type 0} {P : A → Type 0} (more : (why : ℕ) → Why why → Why' why) where
  -- for more reasons
  pub answers_as : {answer : Answer A} → Answers Why Full P answer → Answers Why' Full P answer
  answers_as (gets h) = gets h
  answers_as (fails {why} w) = fails (more why w)
  answers_as (fills f) = fills f

module _ {Why : ℕ → Type 0} {Full : Type 0} where
  pub answers_sure : {A : Type 0} {P : A → Type 0} (why : ℕ) → Why why → (test : Bool) {answer : Answer A}
      → Answers Why Full P answer → Answers Why Full P (and_then (sure why test) λ _. answer)
  answers_sure why w true h = h
  answers_sure why w false h = fails w

  pub answers_test : (why : ℕ) → Why why → (test : Bool) → Answers Why Full Any (sure why test)
  answers_test why w true = gets tt
  answers_test why w false = fails w

  pub answers_then : {A B : Type 0} {P : A → Type 0} {Q : B → Type 0} {answer : Answer A} (f : A → Answer B)
      → Answers Why Full P answer → ((a : A) → P a → Answers Why Full Q (f a)) → Answers Why Full Q (and_then answer f)
  answers_then f (gets h) next = next _ h
  answers_then f (fails w) next = fails w
  answers_then f (fills o) next = fills o

module _ {At Why : ℕ → Type 0} {Full : Type 0} where
  pub ends_at : {A : Type 0} {P : A → Type 0} (place : ℕ) → At place → {answer : Answer A} → Answers Why Full P answer → Ends At Why Full P (at place answer)
  ends_at place here (gets h) = ends h
  ends_at place here (fails w) = sticks here w
  ends_at place here (fills f) = overflows here f

  pub ends_need : {A : Type 0} (place : ℕ) → At place → Why (reason_number Unset) → (cell : Option A) → Ends At Why Full Any (need place cell)
  ends_need place here unset (Some a) = ends tt
  ends_need place here unset None = sticks here unset

  -- whatever it is, it ends so
  pub ends_any : {A : Type 0} → ((place : ℕ) → At place) → ((why : ℕ) → Why why) → Full → (outcome : Outcome A) → Ends At Why Full Any outcome
  ends_any here reason filled (done a) = ends tt
  ends_any here reason filled (stuck place why) = sticks (here place) (reason why)
  ends_any here reason filled (room place) = overflows (here place) filled

  pub ends_bind : {A B : Type 0} {P : A → Type 0} {Q : B → Type 0} {outcome : Outcome A} (f : A → Outcome B)
      → Ends At Why Full P outcome → ((a : A) → P a → Ends At Why Full Q (f a)) → Ends At Why Full Q (bind outcome f)
  ends_bind f (ends h) next = next _ h
  ends_bind f (sticks here w) next = sticks here w
  ends_bind f (overflows here o) next = overflows here o
