-- One code after another, and code whose places are counted from elsewhere.
use mathlib.Core.Path.{◌≡◌, refl, sym, ◌∙◌, ap, fun_ext}
use mathlib.Core.List.{List, [], ◌∷◌, map}
use Prim.Native.Nat.{ℕ, ◌+◌}
use native.Mathlib.Omega.{arith}
use Rattle.code.specs.declared.Instruction.{Instruction}
use Rattle.theory.specs.Outcome.{Outcome, done, stuck, room, bind}
use Rattle.theory.specs.World.{World}
use Rattle.theory.specs.Machine.{Line, line_at, State, step, exec}
pub use Rattle.theory.proofs.Simulation.{exec_append}
use Rattle.theory.proofs.Places.{moved_to, form, moved_step}

-- an outcome whose place is counted from an earlier word
module _ {A : Type 0} where
  abbrev pub from : ℕ → Outcome A → Outcome A
  from first (done a) = done a
  from first (stuck place why) = stuck (first + place) why
  from first (room place) = room (first + place)

  pub from_done : (first : ℕ) (o : Outcome A) {a : A} → from first o ≡ done a → o ≡ done a
  from_done first (done b) e = e
  from_done first (stuck place why) e = absurd (omega (arith, ap form e))
  from_done first (room place) e = absurd (omega (arith, ap form e))

  from_moved : (first place : ℕ) (o : Outcome A) → from first (moved_to place o) ≡ moved_to (first + place) o
  from_moved first place (done a) = refl
  from_moved first place (stuck other why) = refl
  from_moved first place (room other) = refl

module _ {A B : Type 0} where
  from_bind : (first : ℕ) (o : Outcome A) (f : A → Outcome B) → from first (bind o f) ≡ bind (from first o) (λ a. from first (f a))
  from_bind first (done a) f = refl
  from_bind first (stuck place why) f = refl
  from_bind first (room place) f = refl

abbrev pub later_line : ℕ → Line → Line
later_line first l = line_at (first + l.place) l.instruction

module _ (W : World) (kind : ℕ → ℕ) where
  from_step : (first place : ℕ) (i : Instruction) (s : State W) → from first (step W kind place i s) ≡ step W kind (first + place) i s
  from_step first place i s =
      ap (from first) (sym (moved_step W kind place place i s)) ∙ from_moved first place (step W kind place i s) ∙ moved_step W kind (first + place) place i s

  -- the same code further on ends the same, with its place counted from there
  pub exec_from : (first : ℕ) (c : List Line) (s : State W) → exec W kind (map (later_line first) c) s ≡ from first (exec W kind c s)
  exec_from first [] s = refl
  exec_from first (l ∷ c) s =
      rw (from_bind first (step W kind l.place l.instruction s) (exec W kind c), from_step first l.place l.instruction s)
      (ap (bind (step W kind (first + l.place) l.instruction s)) (fun_ext (exec_from first c)))
