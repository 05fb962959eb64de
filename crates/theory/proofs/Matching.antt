-- Matching: figure 5 does what figure 2 says, a lemma a form.
use Prim.Native.Nat.{ℕ, zero, suc, ◌+◌, ◌<◌, ◌≤◌}
use mathlib.Core.Path.{◌≡◌, refl, ◌∙◌}
use Rattle.std.specs.Prelude.{Some}
use native.Mathlib.Nat.{add-zero, zero-add, suc-add, add-suc, le_refl}
use native.Mathlib.Omega.{arith}
use Rattle.patterns.specs.Pattern.{Key, plain_key, op_key, certified_key, Pattern, object, raw, constant, opposite, key_of, encryption, signature, hash, tuple, let_in, Parts, end, part, count, RawsBelow, PartsBelow}
use Rattle.theory.specs.Outcome.{Outcome, bind}
use Rattle.theory.specs.World.{World}
use Rattle.numbers.specs.Limits.{named_cells}
use Rattle.theory.specs.Machine.{Stores, State}
use Rattle.theory.specs.Emission.{Env, Emitted, and_then}
use Rattle.theory.specs.Compilers.{compile↓, compile↓parts}
use Rattle.theory.specs.Rules.{match, match_parts, match_object, match_raw}
use Rattle.theory.proofs.StoreLaws.{put_same, puts_at}
use Rattle.theory.proofs.Reasons.{ReadWithin, WorldWithin}
use Rattle.theory.proofs.Simulation.{is_stuck, Frame, here, refused}
use Rattle.theory.proofs.Goes.{Goes, goes, enter, part_then, ends, lastly, inside, chooses, checks, takes}
use Rattle.theory.proofs.Steps as Step

-- matching ends where the stores are the rule's
abbrev pub Matched : (W : World) → State W → Stores W → Type 0
Matched W s n = s.stores ≡ n

-- a part of a pattern, and then the rest
module _ {Allowed : ℕ → Type 0} {W : World} {calm : WorldWithin Allowed W} {kind : ℕ → ℕ} {Φ : Frame W} where
  matched : {e : Env} {s : State W} {code : Emitted} (rest : Env → Emitted) {x : Outcome (Stores W)} (g : Stores W → Outcome (Stores W))
      → Goes calm kind (here W s e.next) (Matched W) e s code x
      → ((d : Env) (t : State W) → Goes calm kind Φ (Matched W) d t (rest d) (g t.stores))
      → Goes calm kind Φ (Matched W) e s (and_then code rest) (bind x g)
  matched {e} rest g h next = goes λ F. enter F (part_then rest g e.next F.above (le_refl _) h λ d t n G q. rw (← q) (next d t))

module _ {Allowed : ℕ → Type 0} {W : World} (calm : WorldWithin Allowed W) (kind : ℕ → ℕ) where
  -- what is shown of a pattern, where the accumulator may be read
  abbrev pub Matches : Pattern → Type 0
  Matches p = (Φ : Frame W) (e : Env) (s : State W) → ReadWithin Allowed s.accumulator
      → Goes calm kind Φ (Matched W) e s (compile↓ p e) (match W kind p s.accumulator s.stores)

  -- what is shown of the parts of a tuple: their messages stand in scratch that is kept
  abbrev pub MatchesParts : Parts → Type 0
  MatchesParts ps = (Φ : Frame W) (e : Env) (s : State W) (row b i : ℕ) (g : ℕ → W.Msg) → b + count ps ≤ Φ.low
      → ((j : ℕ) → j < count ps → Φ.scratches (b + j) ≡ Some (g (i + j)))
      → Goes calm kind Φ (Matched W) e s (compile↓parts ps row b e) (match_parts W kind ps i g s.stores)

  object_goes : (row v : ℕ) → Matches (object row v)
  object_goes row v Φ e s ready =
      chooses (s.stores.σ v) (λ value. match_object W kind row v value s.accumulator s.stores) (λ F. F.objects v)
      (λ a p.
      takes 1 λ above.
      Step.store_scratch row e.next _ above ready λ m.
      Step.encode_known row v a _ p
      (lastly (Step.match_scratch row e.next a m _ refl (put_same _ _ _) (ends refl))))
      λ p. lastly (Step.decode row v _ ready λ m _. ends refl)

  raw_goes : (row r : ℕ) → r < named_cells → Matches (raw row r)
  raw_goes row r below Φ e s ready =
      chooses (s.stores.ρ r) (λ value. match_raw W kind row r value s.accumulator s.stores) (λ F. F.raws r)
      (λ a p. lastly (Step.match_named row r a _ below ready p λ m. ends refl))
      λ p. lastly (Step.store_named row r _ below ready λ m _. ends refl)

  constant_goes : (row c b : ℕ) → Matches (constant row c b)
  constant_goes row c b Φ e s ready =
      takes 1 λ above.
      Step.store_scratch row e.next _ above ready λ m.
      Step.store_const row c b _ λ made.
      Step.encode_known row c made.0 _ (put_same _ _ _)
      (lastly (Step.match_scratch row e.next made.0 m _ refl (put_same _ _ _) (ends refl)))

  opposite_goes : (row k K : ℕ) → Matches (opposite row k K)
  opposite_goes row k K Φ e s ready =
      takes 1 λ above.
      Step.store_scratch row e.next _ above ready λ m.
      Step.opposite row K k _ λ made.
      Step.encode_known row k made.0 _ (put_same _ _ _)
      (lastly (Step.match_scratch row e.next made.0 m _ refl (put_same _ _ _) (ends refl)))

  key_of_goes : (row k a : ℕ) → Matches (key_of row k a)
  key_of_goes row k a Φ e s ready =
      Step.decode row k _ ready λ m p.
      takes 1 λ above.
      Step.store_scratch_known row e.next m _ above p
      (Step.encode row a _ λ x.
      Step.key_of_lem row x _ refl λ made.
      lastly (Step.match_scratch row e.next made.0 m _ refl (put_same _ _ _) (ends refl)))

  encryption_goes : (row v dk : ℕ) (p : Pattern) → Matches p → Matches (encryption row v (plain_key dk) p)
  encryption_goes row v dk p body Φ e s ready =
      Step.decode row v _ ready λ m q.
      Step.decrypt row dk m _ q λ made.
      body Φ _ _ tt

  signature_goes : (row v : ℕ) (key : Key) (r : ℕ) → r < named_cells → Matches (signature row v key r)
  signature_goes row v (plain_key vk) r below Φ e s ready =
      Step.decode row v _ ready λ m p.
      lastly (Step.verify row vk r m _ below p (ends refl))
  signature_goes row v (op_key k K) r below Φ e s ready =
      Step.decode row v _ ready λ m p.
      Step.opposite row K k _ λ made.
      lastly (Step.verify_known row k r made.0 m _ below (put_same _ _ _) p (ends refl))
  signature_goes row v (certified_key k a) r below Φ e s ready =
      Step.decode row v _ ready λ m p.
      takes 1 λ above.
      Step.store_scratch_known row e.next m _ above p
      (Step.encode row a _ λ x.
      Step.key_of_lem row x _ refl λ made.
      Step.decode_known row k made.0 _ refl
      (Step.load_scratch row e.next m _ (put_same _ _ _)
      (lastly (Step.verify_known row k r made.0 m _ below (put_same _ _ _) refl (ends refl)))))

  hash_goes : (row h r : ℕ) → r < named_cells → Matches (hash row h r)
  hash_goes row h r below Φ e s ready =
      Step.decode row h _ ready λ m p.
      takes 1 λ above.
      Step.store_scratch_known row e.next m _ above p
      (Step.load_named row r _ below λ b.
      Step.hash row h b _ refl λ made.
      lastly (Step.match_scratch row e.next made.0 m _ refl (put_same _ _ _) (ends refl)))

  -- the parts run in a frame that keeps their cells
  tuple_goes : (row t : ℕ) (ps : Parts) → MatchesParts ps → Matches (tuple row t ps)
  tuple_goes row t ps parts Φ e s ready =
      Step.decode row t _ ready λ m p.
      takes (count ps) λ above.
      Step.analyze_tuple row t e.next (count ps) m _ above (put_same _ _ _) λ g.
      inside (e.next + count ps) (omega arith) (le_refl _)
      (parts _ _ _ row e.next zero g (le_refl _) λ j below. rw zero-add (puts_at _ _ _ _ _ below))

  let_in_goes : (row r : ℕ) (p₁ p₂ : Pattern) → r < named_cells → Matches p₁ → Matches p₂ → Matches (let_in row r p₁ p₂)
  let_in_goes row r p₁ p₂ below first second Φ e s ready =
      checks row (s.stores.ρ r) _ (λ F. F.raws r)
      (matched _ _ (second _ e s ready) λ d t.
      Step.load_named row r _ below λ m.
      first Φ _ _ tt)

  end_goes : MatchesParts end
  end_goes Φ e s row b i g kept cells = ends refl

  part_goes : (p : Pattern) (ps : Parts) → Matches p → MatchesParts ps → MatchesParts (part p ps)
  unfolding count
  part_goes p ps first rest Φ e s row b i g kept cells = goes λ F.
      enter F (Step.load_scratch row b (g i) _ (F.keeps_scratch b (omega arith) ∙ (simp add-zero at (cells zero (omega arith))))
      (matched _ _ (first _ _ _ tt) λ d t.
      rest Φ d t row (suc b) (suc i) g (omega arith) λ j below.
      simp suc-add (simp add-suc at (cells (suc j) (omega arith)))))

  mutual
    unfolding RawsBelow PartsBelow

    pub matches : (p : Pattern) → RawsBelow named_cells p → Matches p
    matches (object row v) below = object_goes row v
    matches (raw row r) below = raw_goes row r below
    matches (constant row c b) below = constant_goes row c b
    matches (opposite row k K) below = opposite_goes row k K
    matches (key_of row k a) below = key_of_goes row k a
    matches (encryption row v (plain_key dk) p) below = encryption_goes row v dk p (matches p below)
    matches (encryption row v (op_key k K) p) below = λ Φ e s ready. goes λ F. refused is_stuck
    matches (encryption row v (certified_key k a) p) below = λ Φ e s ready. goes λ F. refused is_stuck
    matches (signature row v key r) below = signature_goes row v key r below
    matches (hash row h r) below = hash_goes row h r below
    matches (tuple row t ps) below = tuple_goes row t ps (matches_parts ps below)
    matches (let_in row r p₁ p₂) below =
        let_in_goes row r p₁ p₂ below.0 (matches p₁ below.1) (matches p₂ below.2)

    matches_parts : (ps : Parts) → PartsBelow named_cells ps → MatchesParts ps
    matches_parts end below = end_goes
    matches_parts (part p ps) below = part_goes p ps (matches p below.0) (matches_parts ps below.1)
