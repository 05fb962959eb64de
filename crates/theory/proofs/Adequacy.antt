-- What a simulation says of a run.
use Prim.Native.Nat.{ℕ}
use mathlib.Core.Path.{◌≡◌, refl, subst}
use mathlib.Core.List.{List}
use Rattle.answers.specs.declared.Compiled.{Compiled}
use Rattle.theory.specs.Outcome.{Outcome, done, stuck, bind}
use Rattle.theory.specs.World.{World}
use Rattle.theory.specs.Machine.{Line, State, exec}
use Rattle.theory.specs.Emission.{Env, Emitted, ok, refuse}
use Rattle.theory.proofs.Reasons.{WorldWithin}
use Rattle.theory.proofs.Simulation.{Alike, both_done, both_stuck, both_room, NotDone, Frame, Fit, Ends, RunsAlike, Simulates}

module _ {A B : Type 0} {Allowed : ℕ → Type 0} {R : A → B → Type 0} where
  pub same_outcome : {D : Type 0} {x : Outcome A} {y : Outcome B} (f : A → D) (g : B → D) → ((a : A) (b : B) → R a b → f a ≡ g b)
      → Alike Allowed R x y → bind x (λ a. done (f a)) ≡ bind y (λ b. done (g b))
  same_outcome f g same (both_done {a = a} {b = b} r) = λ i. done (same a b r i)
  same_outcome f g same (both_stuck within) = refl
  same_outcome f g same both_room = refl

  end_of : {y : Outcome B} {a : A} → Alike Allowed R (done a) y → (b : B) × R a b
  end_of (both_done {b = b} r) = (b, r)

  reason_of : {y : Outcome B} {place why : ℕ} → Alike Allowed R (stuck place why) y → Allowed why
  reason_of (both_stuck within) = within

never : {B : Type 0} {b : B} → NotDone (done b) → ⊥
never h = elim h [ ]

module _ {Allowed : ℕ → Type 0} {W : World} {calm : WorldWithin Allowed W} {kind : ℕ → ℕ} {Φ : Frame W} {B : Type 0}
    {agree : State W → B → Type 0} {s : State W} {code : Emitted} {y : Outcome B} (sim : Simulates calm kind Φ agree s code y) where
  -- accepted code runs as the rule does; what is refused has no end by the rule
  pub accepted : {c : List Line} {e : Env} → code ≡ ok c e → Alike Allowed (Ends calm kind Φ agree e) (exec W kind c s) y
  unfolding RunsAlike
  accepted q = (subst (λ code. Simulates calm kind Φ agree s code y) q sim).run

  pub reason : {c : List Line} {e : Env} {place why : ℕ} → code ≡ ok c e → exec W kind c s ≡ stuck place why → Allowed why
  reason q r = reason_of (rw r at (accepted q))

  pub fits_end : {c : List Line} {e : Env} {t : State W} → code ≡ ok c e → exec W kind c s ≡ done t → Fit W Φ e t
  fits_end q r = (end_of (rw r at (accepted q))).1.fits

  pub no_end : {answer : Compiled} → code ≡ refuse answer → {b : B} → y ≡ done b → ⊥
  unfolding RunsAlike
  no_end q r = never (rw r at (subst (λ code. Simulates calm kind Φ agree s code y) q sim).run)
