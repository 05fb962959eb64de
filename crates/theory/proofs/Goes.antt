-- From a state that fits, code does what the rule does; and how pieces of code go together.
use Prim.Native.Nat.{ℕ, ◌+◌, ◌≤◌}
use mathlib.Core.Path.{◌≡◌, refl}
use mathlib.Core.Bool.{Bool, true, false, cond, true≢false, false≢true}
use Rattle.std.specs.Prelude.{Option, None, Some}
use mathlib.Core.List.{[], append-nil}
use Rattle.theory.specs.Outcome.{Outcome, done, bind, free, is_some}
use Rattle.theory.specs.World.{World}
use Rattle.theory.specs.Machine.{State}
use Rattle.theory.specs.Emission.{Env, Emitted, ok, refuse, behind, and_then, writes}
use Rattle.theory.proofs.Reasons.{WorldWithin}
use Rattle.theory.proofs.Simulation.{both_done, bind_done, Frame, Fit, fits_take, here, fits_here, fits_whole, RunsAlike, Simulates, writes_at, goes_on}

module _ {Allowed : ℕ → Type 0} {W : World} (calm : WorldWithin Allowed W) (kind : ℕ → ℕ) (Φ : Frame W)
    {B : Type 0} (agree : State W → B → Type 0) where
  -- from an environment and a state that fit, code does what the rule does
  pub record Goes (e : Env) (s : State W) (code : Emitted) (y : Outcome B) : Type 0 where
    pub go : Fit W Φ e s → Simulates calm kind Φ agree s code y

module _ {Allowed : ℕ → Type 0} {W : World} {calm : WorldWithin Allowed W} {kind : ℕ → ℕ} {Φ : Frame W}
    {B : Type 0} {agree : State W → B → Type 0} where
  -- into the statement, and out of it
  pub goes : {e : Env} {s : State W} {code : Emitted} {y : Outcome B}
      → (Fit W Φ e s → Simulates calm kind Φ agree s code y) → Goes calm kind Φ agree e s code y
  goes h = record { go = h }

  pub enter : {e : Env} {s : State W} {code : Emitted} {y : Outcome B}
      → Fit W Φ e s → Goes calm kind Φ agree e s code y → Simulates calm kind Φ agree s code y
  enter F h = h.go F

  -- a rule that ends with what a part gives
  pub by_bind : {e : Env} {s : State W} {code : Emitted} {y : Outcome B}
      → Goes calm kind Φ agree e s code (bind y done) → Goes calm kind Φ agree e s code y
  by_bind h = rw bind_done at h

  -- a part, in the frame that starts here, and then the rest
  pub part_then : {A : Type 0} {agree' : State W → A → Type 0} {e : Env} {s : State W} {code : Emitted} (rest : Env → Emitted)
      {x : Outcome A} (g : A → Outcome B) (low : ℕ) → Φ.low ≤ low → low ≤ e.next → Goes calm kind (here W s low) agree' e s code x
      → ((d : Env) (t : State W) (a : A) → Fit W (here W s low) d t → agree' t a → Goes calm kind Φ agree d t (rest d) (g a))
      → Goes calm kind Φ agree e s (and_then code rest) (bind x g)
  part_then {s = s} rest g low above within h next = goes λ F.
      goes_on rest g (h.go (fits_here s low F.objects F.raws within)) λ d t a G q.
      (next d t a G q).go (fits_whole s low t F above G)

  -- the end of the code, and its last instruction
  pub ends : {e : Env} {s : State W} {b : B} → agree s b → Goes calm kind Φ agree e s (ok [] e) (done b)
  unfolding RunsAlike
  ends q = goes λ F. record { run = both_done (record { agrees = q; fits = F }) }

  pub lastly : {code : Emitted} {e : Env} {s : State W} {y : Outcome B}
      → Goes calm kind Φ agree e s (and_then code (ok [])) y → Goes calm kind Φ agree e s code y
  unfolding RunsAlike behind and_then
  lastly {code = ok c d} h = goes λ F. record { run = rw append-nil at (h.go F).run }
  lastly {code = refuse answer} h = goes λ F. record { run = (h.go F).run }

  -- a frame that keeps more
  pub inside : {e : Env} {s : State W} {code : Emitted} {y : Outcome B} (low : ℕ) → Φ.low ≤ low → low ≤ e.next
      → Goes calm kind (here W s low) agree e s code y → Goes calm kind Φ agree e s code y
  inside low above within h = by_bind (lastly (part_then (ok []) done low above within h λ d t b G q. ends q))

  -- code by whether a variable is set, and by a test that the rule makes too
  pub chooses : {known : Bool} (value : Option W.Msg) (y : Option W.Msg → Outcome B) {set unset : Emitted} {e : Env} {s : State W}
      → (Fit W Φ e s → known ≡ is_some value)
      → ((a : W.Msg) → value ≡ Some a → Goes calm kind Φ agree e s set (y (Some a)))
      → (value ≡ None → Goes calm kind Φ agree e s unset (y None))
      → Goes calm kind Φ agree e s (cond known set unset) (y value)
  chooses {known = true} (Some a) y knows if-set if-unset = if-set a refl
  chooses {known = false} None y knows if-set if-unset = if-unset refl
  chooses {known = true} None y knows if-set if-unset = goes λ F. absurd (true≢false (knows F))
  chooses {known = false} (Some a) y knows if-set if-unset = goes λ F. absurd (false≢true (knows F))

  pub either : (test : Bool) {code code' : Emitted} {e : Env} {s : State W} {y y' : Outcome B}
      → Goes calm kind Φ agree e s code y → Goes calm kind Φ agree e s code' y'
      → Goes calm kind Φ agree e s (cond test code code') (cond test y y')
  either true h h' = h
  either false h h' = h'

  -- a check that a variable is unset, where the rule asks it
  pub checks : (row : ℕ) {known : Bool} (cell : Option W.Msg) (g : Unit {0} → Outcome B) {code : Emitted} {e : Env} {s : State W}
      → (Fit W Φ e s → known ≡ is_some cell) → Goes calm kind Φ agree e s code (g tt)
      → Goes calm kind Φ agree e s (writes row known code) (bind (free row cell) g)
  checks row cell g knows h = goes λ F. writes_at row cell _ g (knows F) λ _. h.go F

  -- scratch that is taken lies above what is kept
  pub takes : (n : ℕ) {code : Emitted} {e : Env} {s : State W} {y : Outcome B}
      → (Φ.low ≤ e.next → Goes calm kind Φ agree (record { objects = e.objects; raws = e.raws; next = e.next + n }) s code y)
      → Goes calm kind Φ agree e s code y
  takes n h = goes λ F. (h F.above).go (fits_take F n)
