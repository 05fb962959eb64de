-- What is proved of compiled code, over any world.
use Prim.Native.Nat.{ℕ, ◌<◌}
use mathlib.Core.Path.{◌≡◌, refl, sym, ◌∙◌, subst}
use Rattle.std.specs.Prelude.{Option, None, Some}
use mathlib.Core.List.{List}
use native.Mathlib.Nat.{le_refl}
use Rattle.answers.specs.Numbers.{reason_number}
use Rattle.answers.specs.declared.Reason.TheVariants.{Unset}
use Rattle.answers.specs.declared.Compiled.{Compiled}
use Rattle.patterns.specs.Pattern.{Pattern, RawsBelow}
use Rattle.theory.specs.Outcome.{Outcome, done, stuck, bind, is_some}
use Rattle.theory.specs.World.{World}
use Rattle.numbers.specs.Limits.{named_cells}
use Rattle.theory.specs.Machine.{Line, Stores, State, exec}
use Rattle.theory.specs.Emission.{Env, Emitted, ok, refuse}
use Rattle.theory.specs.Compilers.{compile↓, compile↑}
use Rattle.theory.specs.Rules.{match, create, Made}
use Rattle.theory.proofs.Reasons.{ReadWithin, WorldWithin, any_read, any_world, Calm}
use Rattle.theory.proofs.Simulation.{bind_done, here, fits_here, Simulates}
use Rattle.theory.proofs.Adequacy.{same_outcome, accepted, reason, fits_end, no_end}
use Rattle.theory.proofs.Matching.{Matched, matches}
use Rattle.theory.proofs.Creating.{With, InAccumulator, creates}

module _ (W : World) where
  -- which variables are set, and the first scratch number not taken
  abbrev pub known_from : ℕ → Stores W → Env
  known_from b n = record { objects = λ v. is_some (n.σ v); raws = λ r. is_some (n.ρ r); next = b }

  abbrev pub known : Stores W → Env
  known n = known_from 0 n

  -- what is seen of a finished run, and of what the rule makes
  abbrev pub stores_of : State W → Outcome (Stores W)
  stores_of t = done t.stores

  abbrev pub message_of : State W → Outcome (Option W.Msg × Stores W)
  message_of t = done (t.accumulator, t.stores)

  abbrev pub made_of : W.Msg × Stores W → Outcome (Option W.Msg × Stores W)
  made_of b = done (Some b.0, b.1)

  -- every variable that is set keeps its value, and so does every scratch cell below a number
  pub record Keeps (b : ℕ) (s t : State W) : Type 0 where
    pub objects : (v : ℕ) (m : W.Msg) → s.stores.σ v ≡ Some m → t.stores.σ v ≡ Some m
    pub raws : (r : ℕ) (m : W.Msg) → s.stores.ρ r ≡ Some m → t.stores.ρ r ≡ Some m
    pub scratch : (i : ℕ) → i < b → t.scratches i ≡ s.scratches i

module _ {Allowed : ℕ → Type 0} {W : World} {calm : WorldWithin Allowed W} {kind : ℕ → ℕ} {B : Type 0}
    {agree : State W → B → Type 0} {b : ℕ} {s t : State W} {code : Emitted} {y : Outcome B} where
  keeps : Simulates calm kind (here W s b) agree s code y → {c : List Line} {e : Env} → code ≡ ok c e → exec W kind c s ≡ done t → Keeps W b s t
  keeps sim q r =
      let F = fits_end sim q r in
      record { objects = F.keeps_objects; raws = F.keeps_raws; scratch = F.keeps_scratch }

  -- the environment after it says which variables are set
  sets : Simulates calm kind (here W s b) agree s code y → {c : List Line} {e : Env} → code ≡ ok c e → exec W kind c s ≡ done t
      → e ≡ known_from W e.next t.stores
  sets sim {e = e} q r = let F = fits_end sim q r in λ i. record { objects = λ v. F.objects v i; raws = λ r. F.raws r i; next = e.next }

module _ (W : World) (kind : ℕ → ℕ) (p : Pattern) (below : RawsBelow named_cells p) where
  matching : {Allowed : ℕ → Type 0} (calm : WorldWithin Allowed W) (b : ℕ) (s : State W) → ReadWithin Allowed s.accumulator
      → Simulates calm kind (here W s b) (Matched W) s (compile↓ p (known_from W b s.stores)) (match W kind p s.accumulator s.stores)
  matching calm b s ready = (matches calm kind p below _ _ s ready).go (fits_here s b (λ v. refl) (λ r. refl) (le_refl _))

  matching_any : (b : ℕ) (s : State W)
      → Simulates (any_world W) kind (here W s b) (Matched W) s
      (compile↓ p (known_from W b s.stores)) (match W kind p s.accumulator s.stores)
  matching_any b s = matching (any_world W) b s (any_read s.accumulator)

  -- Matching. Code ends as the rule does: with its stores, or stuck or out of room at the same row for the same reason
  pub matching_runs : (s : State W) {c : List Line} {e : Env} → compile↓ p (known W s.stores) ≡ ok c e
      → bind (exec W kind c s) (stores_of W) ≡ match W kind p s.accumulator s.stores
  matching_runs s q = same_outcome _ _ (λ t n E. E.agrees) (accepted (matching_any 0 s) q) ∙ bind_done _

  -- what is refused matches no message
  pub matching_refused : (n : Stores W) {answer : Compiled} → compile↓ p (known W n) ≡ refuse answer
      → (m : Option W.Msg) (t : Stores W) → match W kind p m n ≡ done t → ⊥
  matching_refused n q m t = no_end (matching_any 0 (record { accumulator = m; scratches = λ i. None; stores = n })) q

  pub matching_keeps : (b : ℕ) (s t : State W) {c : List Line} {e : Env} → compile↓ p (known_from W b s.stores) ≡ ok c e
      → exec W kind c s ≡ done t → Keeps W b s t
  matching_keeps b s t q r = keeps (matching_any b s) q r

  -- a finished run leaves set exactly the variables that are set after emission
  pub matching_sets : (s t : State W) {c : List Line} {e : Env} → compile↓ p (known W s.stores) ≡ ok c e → exec W kind c s ≡ done t
      → e ≡ known_from W e.next t.stores
  matching_sets s t q r = sets (matching_any 0 s) q r

  -- what scratch held on entry does not matter
  pub matching_scratch_free : (s t : State W) {c : List Line} {e : Env} → s.accumulator ≡ t.accumulator → s.stores ≡ t.stores
      → compile↓ p (known W s.stores) ≡ ok c e
      → bind (exec W kind c s) (stores_of W) ≡ bind (exec W kind c t) (stores_of W)
  matching_scratch_free s t {c} {e} a n q =
      matching_runs s q ∙ (λ i. match W kind p (a i) (n i)) ∙ sym (matching_runs t (subst (λ n. compile↓ p (known W n) ≡ ok c e) n q))

  -- code is stuck only for the world's own reasons, or because it has no message
  pub matching_reasons : {Allowed : ℕ → Type 0} → WorldWithin Allowed W → (s : State W) → ReadWithin Allowed s.accumulator
      → {c : List Line} {e : Env} → compile↓ p (known W s.stores) ≡ ok c e → {place why : ℕ} → exec W kind c s ≡ stuck place why → Allowed why
  matching_reasons calm s ready q r = reason (matching calm 0 s ready) q r

  -- so with a set accumulator it never reads an unset cell
  pub matching_reads_set : Calm W → (s : State W) (m : W.Msg) {c : List Line} {e : Env} → s.accumulator ≡ Some m
      → compile↓ p (known W s.stores) ≡ ok c e → (place : ℕ) → exec W kind c s ≡ stuck place (reason_number Unset) → ⊥
  matching_reads_set calm s m a q place r = matching_reasons calm s (rw a tt) q r

  creating : {Allowed : ℕ → Type 0} (calm : WorldWithin Allowed W) (b : ℕ) (s : State W)
      → Simulates calm kind (here W s b) (With W (InAccumulator W)) s (compile↑ kind p (known_from W b s.stores)) (create W kind p s.stores)
  creating calm b s = (creates calm kind p below _ _ s).go (fits_here s b (λ v. refl) (λ r. refl) (le_refl _))

  -- Creating. Code ends as the rule does: with its message and its stores, or stuck or out of room at the same row for the same reason
  pub creating_runs : (s : State W) {c : List Line} {e : Env} → compile↑ kind p (known W s.stores) ≡ ok c e
      → bind (exec W kind c s) (message_of W) ≡ bind (create W kind p s.stores) (made_of W)
  creating_runs s q = same_outcome _ _ (λ t b E i. (E.agrees.0 i, E.agrees.1 i)) (accepted (creating (any_world W) 0 s) q)

  pub creating_refused : (n : Stores W) {answer : Compiled} → compile↑ kind p (known W n) ≡ refuse answer
      → (b : Made W kind) → create W kind p n ≡ done b → ⊥
  creating_refused n q b = no_end (creating (any_world W) 0 (record { accumulator = None; scratches = λ i. None; stores = n })) q

  pub creating_keeps : (b : ℕ) (s t : State W) {c : List Line} {e : Env} → compile↑ kind p (known_from W b s.stores) ≡ ok c e
      → exec W kind c s ≡ done t → Keeps W b s t
  creating_keeps b s t q r = keeps (creating (any_world W) b s) q r

  pub creating_sets : (s t : State W) {c : List Line} {e : Env} → compile↑ kind p (known W s.stores) ≡ ok c e → exec W kind c s ≡ done t
      → e ≡ known_from W e.next t.stores
  creating_sets s t q r = sets (creating (any_world W) 0 s) q r

  pub creating_scratch_free : (s t : State W) {c : List Line} {e : Env} → s.stores ≡ t.stores → compile↑ kind p (known W s.stores) ≡ ok c e
      → bind (exec W kind c s) (message_of W) ≡ bind (exec W kind c t) (message_of W)
  creating_scratch_free s t {c} {e} n q =
      creating_runs s q ∙ (λ i. bind (create W kind p (n i)) (made_of W))
      ∙ sym (creating_runs t (subst (λ n. compile↑ kind p (known W n) ≡ ok c e) n q))

  pub creating_reasons : {Allowed : ℕ → Type 0} → WorldWithin Allowed W → (s : State W)
      → {c : List Line} {e : Env} → compile↑ kind p (known W s.stores) ≡ ok c e → {place why : ℕ} → exec W kind c s ≡ stuck place why → Allowed why
  creating_reasons calm s q r = reason (creating calm 0 s) q r

  pub creating_reads_set : Calm W → (s : State W) {c : List Line} {e : Env} → compile↑ kind p (known W s.stores) ≡ ok c e
      → (place : ℕ) → exec W kind c s ≡ stuck place (reason_number Unset) → ⊥
  creating_reads_set calm s q place r = creating_reasons calm s q r
