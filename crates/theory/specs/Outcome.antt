-- What a part of a run, or of a rule, comes to.
use Rattle.std.specs.Prelude.{ℕ, Bool, true, false}
use Rattle.std.specs.Prelude.{Option, None, Some}
use Rattle.answers.specs.Numbers.{reason_number}
use Rattle.answers.specs.declared.Reason.TheVariants.{Unset}

-- a value; stuck at a place with a reason; no room, at a place. The place is a word of code or a pattern row
pub data Outcome (A : Type 0) : Type 0 where
  done : A → Outcome A
  stuck : ℕ → ℕ → Outcome A
  room : ℕ → Outcome A

module _ {A B : Type 0} where
  abbrev pub bind : Outcome A → (A → Outcome B) → Outcome B
  bind (done a) f = f a
  bind (stuck place why) f = stuck place why
  bind (room place) f = room place

-- what an operation on messages answers: it knows no place
pub data Answer (A : Type 0) : Type 0 where
  got : A → Answer A
  not : ℕ → Answer A
  full : Answer A

module _ {A B : Type 0} where
  abbrev pub and_then : Answer A → (A → Answer B) → Answer B
  and_then (got a) f = f a
  and_then (not why) f = not why
  and_then full f = full

-- a test, or the reason why not
abbrev pub sure : ℕ → Bool → Answer (Unit {0})
sure why true = got tt
sure why false = not why

module _ {A : Type 0} where
  abbrev pub at : ℕ → Answer A → Outcome A
  at place (got a) = done a
  at place (not why) = stuck place why
  at place full = room place

  -- a read of a cell: reason 1 where it is unset
  abbrev pub need : ℕ → Option A → Outcome A
  need place (Some a) = done a
  need place None = stuck place (reason_number Unset)

  -- a cell that has to be unset: otherwise no rule applies, which is no reason of the machine's
  abbrev pub free : ℕ → Option A → Outcome (Unit {0})
  free place None = done tt
  free place (Some a) = stuck place 0

  abbrev pub is_some : Option A → Bool
  is_some None = false
  is_some (Some a) = true
