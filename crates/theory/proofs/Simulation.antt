-- How code, environment and rule go together: the relation of the induction, and one lemma for each way to go on.
use Prim.Native.Nat.{ℕ, ◌+◌, ◌<◌, ◌≤◌}
use mathlib.Core.Path.{◌≡◌, refl, ◌∙◌, ap, fun_ext}
use mathlib.Core.Bool.{Bool, true, false, true≢false, false≢true}
use Rattle.std.specs.Prelude.{Option, None, Some}
use mathlib.Core.List.{List, [], ◌∷◌, ◌++◌}
use native.Mathlib.Nat.{le_trans}
use native.Mathlib.Omega.{arith}
use Rattle.answers.specs.declared.Compiled.{Compiled}
use Rattle.code.specs.declared.Instruction.{Instruction}
use Rattle.theory.specs.Outcome.{Outcome, done, stuck, room, bind, need, free, is_some}
use Rattle.theory.specs.Store.{put, puts}
use Rattle.theory.specs.World.{World}
use Rattle.theory.specs.Machine.{Line, line_at, State, step, exec}
use Rattle.theory.specs.Emission.{Env, Emitted, ok, refuse, behind, and_then, add_object, reads, writes}
use Rattle.theory.proofs.StoreLaws.{put_other, put_known, put_held, puts_below}
use Rattle.theory.proofs.CellLaws.{with_raw}
use Rattle.theory.proofs.Ends.{ends, sticks, overflows}
use Rattle.theory.proofs.Reasons.{OutcomeWithin, WorldWithin}

-- the same end on both sides; stuck for allowed reasons alone
pub data Alike {A B : Type 0} (Allowed : ℕ → Type 0) (R : A → B → Type 0) : Outcome A → Outcome B → Type 0 where
  both_done : {a : A} {b : B} → R a b → Alike Allowed R (done a) (done b)
  both_stuck : {place why : ℕ} → Allowed why → Alike Allowed R (stuck place why) (stuck place why)
  both_room : {place : ℕ} → Alike Allowed R (room place) (room place)

pub data NotDone {A : Type 0} : Outcome A → Type 0 where
  is_stuck : {place why : ℕ} → NotDone (stuck place why)
  is_room : {place : ℕ} → NotDone (room place)

module _ {A B D : Type 0} where
  pub bind_assoc : (x : Outcome A) (f : A → Outcome B) (g : B → Outcome D) → bind (bind x f) g ≡ bind x (λ a. bind (f a) g)
  bind_assoc (done a) f g = refl
  bind_assoc (stuck place why) f g = refl
  bind_assoc (room place) f g = refl

module _ {A : Type 0} where
  pub bind_done : (x : Outcome A) → bind x done ≡ x
  bind_done (done a) = refl
  bind_done (stuck place why) = refl
  bind_done (room place) = refl

module _ {A B : Type 0} where
  not_done : (x : Outcome A) (g : A → Outcome B) → NotDone x → NotDone (bind x g)
  not_done (stuck place why) g is_stuck = is_stuck
  not_done (room place) g is_room = is_room
  not_done (done _) g x3 = elim x3 [ ]

module _ {Allowed : ℕ → Type 0} where
  alike_bind : {A B D E : Type 0} {R : A → B → Type 0} {S : D → E → Type 0} {x : Outcome A} {y : Outcome B}
      {f : A → Outcome D} {g : B → Outcome E}
      → Alike Allowed R x y → ((a : A) (b : B) → R a b → Alike Allowed S (f a) (g b)) → Alike Allowed S (bind x f) (bind y g)
  alike_bind (both_done {a = a} {b = b} r) h = h a b r
  alike_bind (both_stuck within) h = both_stuck within
  alike_bind both_room h = both_room

  alike_same : {A D E : Type 0} {S : D → E → Type 0} {x : Outcome A} (f : A → Outcome D) (g : A → Outcome E)
      → OutcomeWithin Allowed x → ((a : A) → Alike Allowed S (f a) (g a)) → Alike Allowed S (bind x f) (bind x g)
  alike_same f g (ends {a = a} _) h = h a
  alike_same f g (sticks _ within) h = both_stuck within
  alike_same f g (overflows _ _) h = both_room

  alike_not_done : {A B D : Type 0} {R : A → B → Type 0} {x : Outcome A} {y : Outcome B} {g : B → Outcome D}
      → Alike Allowed R x y → ((a : A) (b : B) → R a b → NotDone (g b)) → NotDone (bind y g)
  alike_not_done (both_done {a = a} {b = b} r) h = h a b r
  alike_not_done (both_stuck within) h = is_stuck
  alike_not_done both_room h = is_room

module _ (W : World) where
  -- where a part of a pattern starts: scratch below `low` is kept, and so is every variable that is set
  pub record Frame : Type 0 where
    pub low : ℕ
    pub σ : ℕ → Option W.Msg
    pub ρ : ℕ → Option W.Msg
    pub scratches : ℕ → Option W.Msg

  -- on the way: the environment says which variables are set, and the frame's cells are as they were
  pub record Fits (Φ : Frame) (e : Env) (σ ρ scratches : ℕ → Option W.Msg) : Type 0 where
    pub objects : (v : ℕ) → e.objects v ≡ is_some (σ v)
    pub raws : (r : ℕ) → e.raws r ≡ is_some (ρ r)
    pub above : Φ.low ≤ e.next
    pub keeps_objects : (v : ℕ) (a : W.Msg) → Φ.σ v ≡ Some a → σ v ≡ Some a
    pub keeps_raws : (r : ℕ) (a : W.Msg) → Φ.ρ r ≡ Some a → ρ r ≡ Some a
    pub keeps_scratch : (i : ℕ) → i < Φ.low → scratches i ≡ Φ.scratches i

  abbrev pub Fit : Frame → Env → State W → Type 0
  Fit Φ e s = Fits Φ e s.stores.σ s.stores.ρ s.scratches

  -- the frame of a part that starts here
  abbrev pub here : State W → ℕ → Frame
  here s low = record { low = low; σ = s.stores.σ; ρ = s.stores.ρ; scratches = s.scratches }

module _ {W : World} {Φ : Frame W} {e : Env} {σ ρ c : ℕ → Option W.Msg} (F : Fits W Φ e σ ρ c) where
  pub fits_object : (v : ℕ) (m : W.Msg) → σ v ≡ None → Fits W Φ (add_object e v) (put σ v (Some m)) ρ c
  fits_object v m unset =
      record {
        objects = put_known e.objects σ v m F.objects;
        raws = F.raws;
        above = F.above;
        keeps_objects = λ w a p. put_held σ v w m a unset (F.keeps_objects w a p);
        keeps_raws = F.keeps_raws;
        keeps_scratch = F.keeps_scratch;
      }

  pub fits_raw : (r : ℕ) (m : W.Msg) → ρ r ≡ None → Fits W Φ (with_raw e r) σ (put ρ r (Some m)) c
  fits_raw r m unset =
      record {
        objects = F.objects;
        raws = put_known e.raws ρ r m F.raws;
        above = F.above;
        keeps_objects = F.keeps_objects;
        keeps_raws = λ w a p. put_held ρ r w m a unset (F.keeps_raws w a p);
        keeps_scratch = F.keeps_scratch;
      }

  fits_kept : (c' : ℕ → Option W.Msg) → ((i : ℕ) → i < Φ.low → c' i ≡ c i) → Fits W Φ e σ ρ c'
  fits_kept c' same =
      record {
        objects = F.objects;
        raws = F.raws;
        above = F.above;
        keeps_objects = F.keeps_objects;
        keeps_raws = F.keeps_raws;
        keeps_scratch = λ i below. same i below ∙ F.keeps_scratch i below;
      }

  pub fits_scratch : (i : ℕ) (m : W.Msg) → Φ.low ≤ i → Fits W Φ e σ ρ (put c i (Some m))
  fits_scratch i m above = fits_kept _ λ j below. put_other c i j (Some m) λ e. omega arith

  pub fits_scratches : (b n : ℕ) (g : ℕ → Option W.Msg) → Φ.low ≤ b → Fits W Φ e σ ρ (puts c b n g)
  fits_scratches b n g above = fits_kept _ λ j below. puts_below c b n g j (omega arith)

  -- scratch numbers are taken
  pub fits_take : (n : ℕ) → Fits W Φ (record { objects = e.objects; raws = e.raws; next = e.next + n }) σ ρ c
  fits_take n =
      record {
        objects = F.objects;
        raws = F.raws;
        above = omega (arith, F.above);
        keeps_objects = F.keeps_objects;
        keeps_raws = F.keeps_raws;
        keeps_scratch = F.keeps_scratch;
      }

module _ {W : World} (s : State W) (low : ℕ) where
  -- a part starts here
  pub fits_here : {e : Env} → ((v : ℕ) → e.objects v ≡ is_some (s.stores.σ v)) → ((r : ℕ) → e.raws r ≡ is_some (s.stores.ρ r))
      → low ≤ e.next → Fit W (here W s low) e s
  fits_here objects raws within =
      record {
        objects = objects;
        raws = raws;
        above = within;
        keeps_objects = λ v a p. p;
        keeps_raws = λ r a p. p;
        keeps_scratch = λ i below. refl;
      }

  -- what the part keeps is kept by the whole
  pub fits_whole : {Φ : Frame W} {e d : Env} (t : State W) → Fit W Φ e s → Φ.low ≤ low → Fit W (here W s low) d t → Fit W Φ d t
  fits_whole t F above G =
      record {
        objects = G.objects;
        raws = G.raws;
        above = le_trans above G.above;
        keeps_objects = λ v a p. G.keeps_objects v a (F.keeps_objects v a p);
        keeps_raws = λ r a p. G.keeps_raws r a (F.keeps_raws r a p);
        keeps_scratch = λ i below. G.keeps_scratch i (le_trans below above) ∙ F.keeps_scratch i below;
      }

module _ (W : World) (kind : ℕ → ℕ) where
  pub exec_append : (c d : List Line) (s : State W) → exec W kind (c ++ d) s ≡ bind (exec W kind c s) (exec W kind d)
  exec_append [] d s = refl
  exec_append (l ∷ c) d s = rw bind_assoc (ap (bind (step W kind l.place l.instruction s)) (fun_ext (exec_append c d)))

module _ {Allowed : ℕ → Type 0} {W : World} (calm : WorldWithin Allowed W) (kind : ℕ → ℕ) (Φ : Frame W)
    {B : Type 0} (agree : State W → B → Type 0) where
  pub record Ends (e : Env) (s : State W) (b : B) : Type 0 where
    pub agrees : agree s b
    pub fits : Fit W Φ e s

  -- code and rule end alike; what is refused has no end by the rule
  unfoldable pub RunsAlike : State W → Emitted → Outcome B → Type 0
  RunsAlike s (ok c e) y = Alike Allowed (Ends e) (exec W kind c s) y
  RunsAlike s (refuse answer) y = NotDone y

  -- a record, so that it shows its arguments
  pub record Simulates (s : State W) (code : Emitted) (y : Outcome B) : Type 0 where
    pub run : RunsAlike s code y

module _ {Allowed : ℕ → Type 0} {W : World} {calm : WorldWithin Allowed W} {kind : ℕ → ℕ} {Φ : Frame W}
    {B : Type 0} {agree : State W → B → Type 0} where
  -- refused where the rule has no end
  pub refused : {s : State W} {answer : Compiled} {y : Outcome B} → NotDone y → Simulates calm kind Φ agree s (refuse answer) y
  unfolding RunsAlike
  refused never = record { run = never }

  -- a check that a variable is set: the rule reads it, or it is known to be set
  pub reads_it : {s : State W} (row : ℕ) {known : Bool} (cell : Option W.Msg) (code : Emitted) (rest : Env → Emitted) (g : W.Msg → Outcome B)
      → known ≡ is_some cell → ((a : W.Msg) → cell ≡ Some a → Simulates calm kind Φ agree s (and_then code rest) (g a))
      → Simulates calm kind Φ agree s (and_then (reads row known code) rest) (bind (need row cell) g)
  unfolding and_then
  reads_it row {known = true} None code rest g e h = absurd (true≢false e)
  reads_it row {known = true} (Some a) code rest g e h = h a refl
  reads_it row {known = false} None code rest g e h = refused is_stuck
  reads_it row {known = false} (Some a) code rest g e h = absurd (false≢true e)

  pub reads_known : {s : State W} (row : ℕ) {known : Bool} (code : Emitted) (rest : Env → Emitted) {y : Outcome B} → known ≡ true
      → Simulates calm kind Φ agree s (and_then code rest) y → Simulates calm kind Φ agree s (and_then (reads row known code) rest) y
  reads_known row code rest e h = rw e h

  -- a check that a variable is unset: the rule asks it, or it is known to be unset
  pub writes_at : {s : State W} (row : ℕ) {known : Bool} (cell : Option W.Msg) (code : Emitted) (g : Unit {0} → Outcome B)
      → known ≡ is_some cell → (cell ≡ None → Simulates calm kind Φ agree s code (g tt))
      → Simulates calm kind Φ agree s (writes row known code) (bind (free row cell) g)
  writes_at row {known = true} None code g e h = absurd (true≢false e)
  writes_at row {known = true} (Some a) code g e h = refused is_stuck
  writes_at row {known = false} None code g e h = h refl
  writes_at row {known = false} (Some a) code g e h = absurd (false≢true e)

  pub writes_it : {s : State W} (row : ℕ) {known : Bool} (cell : Option W.Msg) (code : Emitted) (rest : Env → Emitted) (g : Unit {0} → Outcome B)
      → known ≡ is_some cell → (cell ≡ None → Simulates calm kind Φ agree s (and_then code rest) (g tt))
      → Simulates calm kind Φ agree s (and_then (writes row known code) rest) (bind (free row cell) g)
  unfolding and_then
  writes_it row {known = true} cell code rest g e h = writes_at row cell _ g e h
  writes_it row {known = false} cell code rest g e h = writes_at row cell _ g e h

  pub writes_known : {s : State W} (row : ℕ) {known : Bool} (code : Emitted) (rest : Env → Emitted) {y : Outcome B} → known ≡ false
      → Simulates calm kind Φ agree s (and_then code rest) y → Simulates calm kind Φ agree s (and_then (writes row known code) rest) y
  writes_known row code rest e h = rw e h

  -- an instruction that does what the rule does next
  pub shares : {A : Type 0} {s : State W} (row : ℕ) (i : Instruction) (code : Emitted) {x : Outcome A} (t : A → State W) (g : A → Outcome B)
      → OutcomeWithin Allowed x → step W kind row i s ≡ bind x (λ a. done (t a))
      → ((a : A) → Simulates calm kind Φ agree (t a) code (g a))
      → Simulates calm kind Φ agree s (behind (line_at row i ∷ []) code) (bind x g)
  unfolding RunsAlike behind
  shares row i (ok c e) t g within p h = record { run = rw (p, bind_assoc) (alike_same _ _ within λ a. (h a).run) }
  shares row i (refuse answer) t g (ends _) p h = record { run = (h _).run }
  shares row i (refuse answer) t g (sticks _ within) p h = record { run = is_stuck }
  shares row i (refuse answer) t g (overflows _ _) p h = record { run = is_room }

  -- an instruction of which the rule knows nothing
  pub silent : {s : State W} (t : State W) (row : ℕ) (i : Instruction) (code : Emitted) {y : Outcome B} → step W kind row i s ≡ done t
      → Simulates calm kind Φ agree t code y → Simulates calm kind Φ agree s (behind (line_at row i ∷ []) code) y
  unfolding RunsAlike behind
  silent t row i (ok c e) p h = record { run = rw p h.run }
  silent t row i (refuse answer) p h = record { run = h.run }

-- a part of a pattern, in a frame of its own, and then the rest
module _ {Allowed : ℕ → Type 0} {W : World} {calm : WorldWithin Allowed W} {kind : ℕ → ℕ} {Φ Ψ : Frame W} where
  pub goes_on : {A B : Type 0} {agree : State W → A → Type 0} {agree' : State W → B → Type 0} {s : State W}
      {code : Emitted} (rest : Env → Emitted) {x : Outcome A} (g : A → Outcome B) → Simulates calm kind Ψ agree s code x
      → ((d : Env) (t : State W) (a : A) → Fit W Ψ d t → agree t a → Simulates calm kind Φ agree' t (rest d) (g a))
      → Simulates calm kind Φ agree' s (and_then code rest) (bind x g)
  unfolding RunsAlike behind and_then
  goes_on {code = refuse answer} rest {x} g h next = record { run = not_done x g h.run }
  goes_on {agree = agree} {agree'} {s} {code = ok c d} rest {x} g h next = go (rest d) (next d)
    where
      go : (then : Emitted) → ((t : State W) (a : _) → Fit W Ψ d t → agree t a → Simulates calm kind Φ agree' t then (g a))
          → Simulates calm kind Φ agree' s (behind c then) (bind x g)
      go (ok c' e') next = record { run = rw exec_append (alike_bind h.run λ t a E. (next t a E.fits E.agrees).run) }
      go (refuse answer) next = record { run = alike_not_done h.run λ t a E. (next t a E.fits E.agrees).run }
