-- The rules of figures 2 and 3 as functions over a world, in the order in which code is emitted, with row and reason.
use Rattle.std.specs.Prelude.{ℕ, zero, suc, cond, List, [], ◌∷◌}
use Rattle.std.specs.Prelude.{Option, None, Some}
use Rattle.answers.specs.Numbers.{reason_number}
use Rattle.answers.specs.declared.Reason.TheVariants.{Unset}
use Rattle.patterns.specs.Pattern.{Key, plain_key, op_key, certified_key, Pattern, object, raw, constant, opposite, key_of, encryption, signature, hash, tuple, let_in, Parts, end, part, count}
use Rattle.theory.specs.Outcome.{Outcome, done, stuck, bind, at, need, free}
use Rattle.theory.specs.World.{World, Op, creatable}
use Rattle.theory.specs.World as Voc
use Rattle.theory.specs.Machine.{Stores, set_object, set_raw, set_memory}

module _ (W : World) (kind : ℕ → ℕ) where
  -- a made message becomes the value of v
  abbrev pub makes : {D : Type 0} → ℕ → ℕ → Op W.Msg → Stores W → (W.Msg → Stores W → Outcome D) → Outcome D
  makes row v o n f =
      bind (free row (n.σ v)) λ _. bind (at row (W.apply o n.memory)) λ r. f r.0 (set_object W (set_memory W n r.1) v r.0)

  -- v.decode(m) becomes the value of v
  abbrev pub decodes : {D : Type 0} → ℕ → ℕ → Option W.Msg → Stores W → (W.Msg → Stores W → Outcome D) → Outcome D
  decodes row v a n f =
      bind (free row (n.σ v)) λ _. bind (need row a) λ m. bind (at row (W.test (Voc.is (kind v) m) n.memory)) λ _. f m (set_object W n v m)

  abbrev pub equals : ℕ → W.Msg → W.Msg → Stores W → Outcome (Stores W)
  equals row a b n = bind (at row (W.test (Voc.same a b) n.memory)) λ _. done n

  -- the key of a matched S, and the stores after it
  abbrev pub match_key : ℕ → Key → Stores W → (W.Msg → Stores W → Outcome (Stores W)) → Outcome (Stores W)
  match_key row (plain_key v) n f = bind (need row (n.σ v)) λ k. f k n
  match_key row (op_key k K) n f = bind (need row (n.σ K)) λ a. makes row k (Voc.op a) n f
  match_key row (certified_key k a) n f =
      bind (need row (n.σ a)) λ x. bind (at row (W.apply (Voc.key_of x) n.memory)) λ r. decodes row k (Some r.0) (set_memory W n r.1) f

  abbrev pub match_object : ℕ → ℕ → Option W.Msg → Option W.Msg → Stores W → Outcome (Stores W)
  match_object row v (Some a) m n = bind (need row m) λ m. equals row a m n
  match_object row v None m n = decodes row v m n λ _ n. done n

  abbrev pub match_raw : ℕ → ℕ → Option W.Msg → Option W.Msg → Stores W → Outcome (Stores W)
  match_raw row r (Some a) m n = bind (need row m) λ m. equals row m a n
  match_raw row r None m n = bind (free row (n.ρ r)) λ _. bind (need row m) λ m. done (set_raw W n r m)

  -- Figure 2: a pattern against a message, where there is one
  abbrev mutual
    pub match : Pattern → Option W.Msg → Stores W → Outcome (Stores W)
    match (object row v) m n = match_object row v (n.σ v) m n
    match (raw row r) m n = match_raw row r (n.ρ r) m n
    match (constant row c b) m n = bind (need row m) λ m. makes row c (Voc.byte b) n λ o n. equals row o m n
    match (opposite row k K) m n =
        bind (need row m) λ m. bind (need row (n.σ K)) λ a. makes row k (Voc.op a) n λ o n. equals row o m n
    match (key_of row k a) m n =
        decodes row k m n λ m n. bind (need row (n.σ a)) λ x. bind (at row (W.apply (Voc.key_of x) n.memory)) λ r.
        equals row r.0 m (set_memory W n r.1)
    match (encryption row e (plain_key dk) p) m n =
        decodes row e m n λ m n. bind (need row (n.σ dk)) λ k. bind (at row (W.apply (Voc.decrypt k m) n.memory)) λ r.
        match p (Some r.0) (set_memory W n r.1)
    match (encryption row e (op_key k K) p) m n = stuck row 0
    match (encryption row e (certified_key k a) p) m n = stuck row 0
    match (signature row s key r) m n =
        decodes row s m n λ m n. match_key row key n λ k n. bind (need row (n.ρ r)) λ b.
        bind (at row (W.test (Voc.verify k b m) n.memory)) λ _. done n
    match (hash row h r) m n =
        decodes row h m n λ m n. bind (need row (n.ρ r)) λ b. bind (at row (W.apply (Voc.hash b) n.memory)) λ x.
        equals row x.0 m (set_memory W n x.1)
    match (tuple row t ps) m n =
        decodes row t m n λ m n. bind (at row (W.parts m (count ps) n.memory)) λ g. match_parts ps zero g n
    match (let_in row r p₁ p₂) m n =
        bind (free row (n.ρ r)) λ _. bind (match p₂ m n) λ n. bind (need row (n.ρ r)) λ m. match p₁ (Some m) n

    pub match_parts : Parts → ℕ → (ℕ → W.Msg) → Stores W → Outcome (Stores W)
    match_parts end i g n = done n
    match_parts (part p ps) i g n = bind (match p (Some (g i)) n) λ n. match_parts ps (suc i) g n

  -- Figure 3: the message and the stores
  abbrev pub Made : Type 0
  Made = W.Msg × Stores W

  abbrev pub made : W.Msg → Stores W → Outcome Made
  made m n = done (m, n)

  -- a variable is read, or created if it can be
  abbrev pub get_variable : ℕ → ℕ → Option W.Msg → Stores W → Outcome Made
  get_variable row v (Some a) n = made a n
  get_variable row v None n =
      cond (creatable (kind v))
      (bind (at row (W.apply (Voc.create (kind v)) n.memory)) λ r. made r.0 (set_object W (set_memory W n r.1) v r.0))
      (stuck row (reason_number Unset))

  abbrev pub create_key : ℕ → Key → Stores W → Outcome Made
  create_key row (plain_key v) n = get_variable row v (n.σ v) n
  create_key row (op_key k K) n = bind (get_variable row K (n.σ K) n) λ a. makes row k (Voc.op a.0) a.1 made
  create_key row (certified_key k a) n =
      bind (need row (n.σ a)) λ x. bind (at row (W.apply (Voc.key_of x) n.memory)) λ r. decodes row k (Some r.0) (set_memory W n r.1) made

  abbrev mutual
    pub create : Pattern → Stores W → Outcome Made
    create (object row v) n = get_variable row v (n.σ v) n
    create (raw row r) n = bind (need row (n.ρ r)) λ m. made m n
    create (constant row c b) n = makes row c (Voc.byte b) n made
    create (opposite row k K) n = create_key row (op_key k K) n
    create (key_of row k a) n = create_key row (certified_key k a) n
    create (encryption row e key p) n =
        bind (create_key row key n) λ k. bind (create p k.1) λ m. bind (at row (W.apply (Voc.encrypt k.0 m.0) m.1.memory)) λ x.
        decodes row e (Some x.0) (set_memory W m.1 x.1) made
    create (signature row s key r) n =
        bind (create_key row key n) λ k. bind (need row (k.1.ρ r)) λ m. bind (at row (W.apply (Voc.sign k.0 m) k.1.memory)) λ x.
        decodes row s (Some x.0) (set_memory W k.1 x.1) made
    create (hash row h r) n =
        bind (need row (n.ρ r)) λ m. bind (at row (W.apply (Voc.hash m) n.memory)) λ x. decodes row h (Some x.0) (set_memory W n x.1) made
    create (tuple row t ps) n = bind (create_parts ps n) λ ms. makes row t (Voc.tuple ms.0) ms.1 made
    create (let_in row r p₁ p₂) n = bind (create p₁ n) λ m. bind (free row (m.1.ρ r)) λ _. create p₂ (set_raw W m.1 r m.0)

    pub create_parts : Parts → Stores W → Outcome (List W.Msg × Stores W)
    create_parts end n = done ([], n)
    create_parts (part p ps) n = bind (create p n) λ m. bind (create_parts ps m.1) λ ms. done (m.0 ∷ ms.0, ms.1)
