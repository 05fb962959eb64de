-- Creating: figure 6 does what figure 3 says, a lemma a form.
use Prim.Native.Nat.{ℕ, suc, ◌+◌, ◌<◌, ◌≤◌}
use mathlib.Core.Path.{◌≡◌, refl, ◌∙◌, subst}
use Rattle.std.specs.Prelude.{Some}
use mathlib.Core.List.{List}
use native.Mathlib.Nat.{le_refl}
use native.Mathlib.Omega.{arith}
use Rattle.patterns.specs.Pattern.{Key, plain_key, op_key, certified_key, Pattern, object, raw, constant, opposite, key_of, encryption, signature, hash, tuple, let_in, Parts, end, part, count, RawsBelow, PartsBelow}
use Rattle.theory.specs.Outcome.{Outcome, done, bind}
use Rattle.theory.specs.World.{World, creatable}
use Rattle.numbers.specs.Limits.{named_cells}
use Rattle.theory.specs.Machine.{Stores, State, messages}
use Rattle.theory.specs.Emission.{Env, Emitted, and_then}
use Rattle.theory.specs.Compilers.{key_var, creating, compile↑K, compile↑, compile↑parts}
use Rattle.theory.specs.Rules.{get_variable, create_key, create, create_parts}
use Rattle.theory.proofs.StoreLaws.{put_same}
use Rattle.theory.proofs.CellLaws.{messages_scratch}
use Rattle.theory.proofs.Reasons.{WorldWithin}
use Rattle.theory.proofs.Simulation.{is_stuck, Frame, Fit, here, refused}
use Rattle.theory.proofs.Goes.{Goes, goes, enter, by_bind, part_then, ends, lastly, chooses, either, takes}
use Rattle.theory.proofs.Steps as Step

module _ (W : World) where
  -- what the rule makes, held somewhere by the machine, and the rule's stores
  abbrev pub With : {X : Type 0} → (State W → X → Type 0) → State W → X × Stores W → Type 0
  With P s b = P s b.0 × (s.stores ≡ b.1)

  abbrev pub InAccumulator : State W → W.Msg → Type 0
  InAccumulator s m = s.accumulator ≡ Some m

  abbrev pub InVariable : ℕ → State W → W.Msg → Type 0
  InVariable v s m = s.stores.σ v ≡ Some m

  abbrev pub InScratch : ℕ → ℕ → ℕ → State W → List W.Msg → Type 0
  InScratch row b n s ms = messages W row s (named_cells + b) n ≡ done ms

-- a part, and then the rest, which knows what the part has kept
module _ {Allowed : ℕ → Type 0} {W : World} {calm : WorldWithin Allowed W} {kind : ℕ → ℕ} {Φ : Frame W} {X B : Type 0}
    (P : State W → X → Type 0) {agree : State W → B → Type 0} {e : Env} {s : State W} {code : Emitted} (rest : Env → Emitted)
    {x : Outcome (X × Stores W)} (g : X × Stores W → Outcome B) where
  above_then : (low : ℕ) → Φ.low ≤ low → low ≤ e.next
      → Goes calm kind (here W s low) (With W P) e s code x
      → ((d : Env) (t : State W) (m : X) → Fit W (here W s low) d t → P t m → Goes calm kind Φ agree d t (rest d) (g (m, t.stores)))
      → Goes calm kind Φ agree e s (and_then code rest) (bind x g)
  above_then low above within made next =
      part_then rest g low above within made λ d t a G q.
      subst (λ n. Goes calm kind Φ agree d t (rest d) (g (a.0, n))) q.1 (next d t a.0 G q.0)

  made_then : Goes calm kind (here W s e.next) (With W P) e s code x
      → ((d : Env) (t : State W) (m : X) → Fit W (here W s e.next) d t → P t m → Goes calm kind Φ agree d t (rest d) (g (m, t.stores)))
      → Goes calm kind Φ agree e s (and_then code rest) (bind x g)
  made_then made next = goes λ F. enter F (above_then e.next F.above (le_refl _) made next)

module _ {Allowed : ℕ → Type 0} {W : World} (calm : WorldWithin Allowed W) (kind : ℕ → ℕ) where
  -- what is shown of a pattern, and of the parts of a tuple
  abbrev pub Creates : Pattern → Type 0
  Creates p = (Φ : Frame W) (e : Env) (s : State W)
      → Goes calm kind Φ (With W (InAccumulator W)) e s (compile↑ kind p e) (create W kind p s.stores)

  abbrev pub CreatesParts : Parts → Type 0
  CreatesParts ps = (Φ : Frame W) (e : Env) (s : State W) (row b : ℕ) → Φ.low ≤ b → b + count ps ≤ e.next
      → Goes calm kind Φ (With W (InScratch W row b (count ps))) e s (compile↑parts kind ps row b e) (create_parts W kind ps s.stores)

  variable_goes : (Φ : Frame W) (e : Env) (s : State W) (row v : ℕ)
      → Goes calm kind Φ (With W (InVariable W v)) e s (creating kind row v e) (get_variable W kind row v (s.stores.σ v) s.stores)
  variable_goes Φ e s row v =
      chooses (s.stores.σ v) (λ value. get_variable W kind row v value s.stores) (λ F. F.objects v)
      (λ a p. ends (p, refl))
      λ p. either (creatable (kind v)) (lastly (Step.create row v _ p λ made. ends (put_same _ _ _, refl))) (goes λ F. refused is_stuck)

  -- a key ends in its variable
  key_goes : (Φ : Frame W) (e : Env) (s : State W) (row : ℕ) (key : Key)
      → Goes calm kind Φ (With W (InVariable W (key_var key))) e s (compile↑K kind row key e) (create_key W kind row key s.stores)
  key_goes Φ e s row (plain_key v) = variable_goes Φ e s row v
  key_goes Φ e s row (op_key k K) =
      made_then (InVariable W K) _ _ (variable_goes _ e s row K) λ d t a G p.
      lastly (Step.opposite_known row K k a _ p λ made. ends (put_same _ _ _, refl))
  key_goes Φ e s row (certified_key k a) =
      Step.encode row a _ λ x.
      Step.key_of_lem row x _ refl λ made.
      lastly (Step.decode_known row k made.0 _ refl (ends (put_same _ _ _, refl)))

  object_goes : (row v : ℕ) → Creates (object row v)
  object_goes row v Φ e s =
      by_bind (made_then (InVariable W v) _ _ (variable_goes _ e s row v) λ d t m G p.
      lastly (Step.encode_known row v m _ p (ends (refl, refl))))

  raw_goes : (row r : ℕ) → r < named_cells → Creates (raw row r)
  raw_goes row r below Φ e s = lastly (Step.load_named row r _ below λ m. ends (refl, refl))

  constant_goes : (row c b : ℕ) → Creates (constant row c b)
  constant_goes row c b Φ e s =
      Step.store_const row c b _ λ made.
      lastly (Step.encode_known row c made.0 _ (put_same _ _ _) (ends (refl, refl)))

  opposite_goes : (row k K : ℕ) → Creates (opposite row k K)
  opposite_goes row k K Φ e s =
      by_bind (made_then (InVariable W k) _ _ (key_goes _ e s row (op_key k K)) λ d t m G p.
      lastly (Step.encode_known row k m _ p (ends (refl, refl))))

  key_of_goes : (row k a : ℕ) → Creates (key_of row k a)
  key_of_goes row k a Φ e s =
      Step.encode row a _ λ x.
      Step.key_of_lem row x _ refl λ made.
      lastly (Step.decode_known row k made.0 _ refl (ends (refl, refl)))

  encryption_goes : (row v : ℕ) (key : Key) (p : Pattern) → Creates p → Creates (encryption row v key p)
  encryption_goes row v key p body Φ e s =
      made_then (InVariable W (key_var key)) _ _ (key_goes _ e s row key) λ d t k _ h.
      made_then (InAccumulator W) _ _ (body _ d t) λ d' t' m G q.
      Step.encrypt row (key_var key) k m _ (G.keeps_objects (key_var key) k h) q λ made.
      lastly (Step.decode_known row v made.0 _ refl (ends (refl, refl)))

  signature_goes : (row v : ℕ) (key : Key) (r : ℕ) → r < named_cells → Creates (signature row v key r)
  signature_goes row v key r below Φ e s =
      made_then (InVariable W (key_var key)) _ _ (key_goes _ e s row key) λ d t k _ h.
      Step.load_named row r _ below λ m.
      Step.sign row (key_var key) k m _ h refl λ made.
      lastly (Step.decode_known row v made.0 _ refl (ends (refl, refl)))

  hash_goes : (row h r : ℕ) → r < named_cells → Creates (hash row h r)
  hash_goes row h r below Φ e s =
      Step.load_named row r _ below λ m.
      Step.hash row h m _ refl λ made.
      lastly (Step.decode_known row h made.0 _ refl (ends (refl, refl)))

  let_in_goes : (row r : ℕ) (p₁ p₂ : Pattern) → r < named_cells → Creates p₁ → Creates p₂ → Creates (let_in row r p₁ p₂)
  let_in_goes row r p₁ p₂ below first second Φ e s =
      made_then (InAccumulator W) _ _ (first _ e s) λ d t m G q.
      Step.store_named_known row r m _ below q
      (second Φ _ _)

  tuple_goes : (row t : ℕ) (ps : Parts) → CreatesParts ps → Creates (tuple row t ps)
  tuple_goes row t ps parts Φ e s =
      takes (count ps) λ above.
      above_then (InScratch W row e.next (count ps)) _ _ e.next above (omega arith)
      (parts _ _ s row e.next (le_refl _) (le_refl _)) λ d u ms G p.
      Step.create_tuple row t e.next (count ps) ms _ p λ made.
      lastly (Step.encode_known row t made.0 _ (put_same _ _ _) (ends (refl, refl)))

  end_goes : CreatesParts end
  unfolding count messages
  end_goes Φ e s row b above within = ends (refl, refl)

  part_goes : (p : Pattern) (ps : Parts) → Creates p → CreatesParts ps → CreatesParts (part p ps)
  unfolding count
  part_goes p ps first rest Φ e s row b above within =
      made_then (InAccumulator W) _ _ (first _ e s) λ d t m G q.
      Step.store_scratch_known row b m _ above q
      (lastly
      (above_then (InScratch W row (suc b) (count ps)) _ _ (suc b) (omega arith) (omega (arith, G.above))
      (rest _ d _ row (suc b) (le_refl _) (omega (arith, G.above))) λ d' t' ms H p.
      ends (messages_scratch W t' row b (count ps) m ms (H.keeps_scratch b (omega arith) ∙ put_same _ _ _) p, refl)))

  mutual
    unfolding RawsBelow PartsBelow

    pub creates : (p : Pattern) → RawsBelow named_cells p → Creates p
    creates (object row v) below = object_goes row v
    creates (raw row r) below = raw_goes row r below
    creates (constant row c b) below = constant_goes row c b
    creates (opposite row k K) below = opposite_goes row k K
    creates (key_of row k a) below = key_of_goes row k a
    creates (encryption row v key p) below = encryption_goes row v key p (creates p below)
    creates (signature row v key r) below = signature_goes row v key r below
    creates (hash row h r) below = hash_goes row h r below
    creates (tuple row t ps) below = tuple_goes row t ps (creates_parts ps below)
    creates (let_in row r p₁ p₂) below = let_in_goes row r p₁ p₂ below.0 (creates p₁ below.1) (creates p₂ below.2)

    creates_parts : (ps : Parts) → PartsBelow named_cells ps → CreatesParts ps
    creates_parts end below = end_goes
    creates_parts (part p ps) below = part_goes p ps (creates p below.0) (creates_parts ps below.1)
