-- Figure 3's relation is the function `create` over terms.
use Prim.Native.Nat.{ℕ}
use mathlib.Core.Path.{◌≡◌, refl, sym, ◌∙◌, ap, subst}
use mathlib.Core.Logic.{◌≢◌}
use mathlib.Core.Bool.{Bool, true, false, cond, ◌&&◌}
use Rattle.std.specs.Prelude.{Option, None, Some}
use mathlib.Core.List.{List}
use lib.Dec.{T, eqb}
use Rattle.word.proofs.TestLaws.{both}
use Rattle.answers.specs.Numbers.{reason_number}
use Rattle.answers.specs.declared.Reason.TheVariants.{Unset}
use Rattle.patterns.specs.Pattern.{Key, plain_key, op_key, certified_key, Pattern, object, raw, constant, opposite, key_of, encryption, signature, hash, tuple, let_in, Parts, end, part}
use Rattle.patterns.specs.Kinds.{private_side, public_side, RightKinds, RightParts}
use Rattle.theory.specs.Outcome.{Outcome, done, stuck, bind, at}
use Rattle.theory.specs.World.{creatable}
use Rattle.theory.specs.World as Voc
use Rattle.theory.specs.Machine.{set_memory}
use Rattle.theory.specs.Rules.{create, create_parts, create_key, get_variable, decodes, made}
use Rattle.theory.specs.TermModel.{Term, encrypted, signed, hashed, term_world}
use Rattle.theory.specs.Figure2.{TermStores, set_object, set_raw, ◌∉◌, Decodes}
use Rattle.theory.specs.Figure3.{CreatesNew, KeyCreates, Creates, CreatesParts, new, key_set, key_new, key_op, key_key_of, object_set, object_new, raw_set, constant_rule, op_rule, op_new, key_of_rule, encryption_rule, signature_rule, hash_rule, tuple_rule, let_rule, no_more, one_more}
use Rattle.theory.proofs.StoreLaws.{put_same, put_other}
use Rattle.theory.proofs.FigureLaws.{stuck_not_done, done_inj, bind_then, at_then, need_then, free_then, got_message, gives_then, decodes_then, apart}

-- a relation between a message and stores is carried along an outcome
carried : {A B : Type 0} {r q : A × B} (R : A → B → Type 0) → done r ≡ done q → R r.0 r.1 → R q.0 q.1
carried R e holds = subst (λ r. R r.0 r.1) (done_inj e) holds

-- K and k of an op key differ
abbrev Distinct : Key → Type 0
Distinct (plain_key v) = Unit {0}
Distinct (op_key k K) = K ≢ k
Distinct (certified_key k a) = Unit {0}

module _ (kind : ℕ → ℕ) where
  op_distinct : (k K : ℕ) → T (eqb (kind k) 4 && eqb (kind K) 5) → K ≢ k
  op_distinct k K t e = apart kind k K 4 (λ x. eqb x 5) t (λ u. u) (sym e)

  public_distinct : (key : Key) → T (public_side kind key) → Distinct key
  public_distinct (plain_key v) t = tt
  public_distinct (op_key k K) t = op_distinct k K t
  public_distinct (certified_key k a) t = tt

  private_distinct : (key : Key) → T (private_side kind key) → Distinct key
  private_distinct (plain_key v) t = tt
  private_distinct (op_key k K) t = absurd t
  private_distinct (certified_key k a) t = tt

  new_is_set : {n n' : TermStores} {v : ℕ} {o : Term} → CreatesNew kind n v o n' → n'.σ v ≡ Some o
  new_is_set (new {n} {v = v} {o = o} unset can gives after) = rw (← after) (put_same n.σ v (Some o))

  new_is_done : {n n' : TermStores} {v : ℕ} {o : Term} (row : ℕ) → CreatesNew kind n v o n' → get_variable term_world kind row v (n.σ v) n ≡ done (o, n')
  new_is_done row (new unset can gives after) = rw (unset, can, gives, after)

  -- a variable that is read or created leaves every other as it was
  other_kept : {n n' : TermStores} {v w : ℕ} {o : Term} → v ≢ w → KeyCreates kind n (plain_key v) o n' → n'.σ w ≡ n.σ w
  other_kept v≢w (key_set set) = refl
  other_kept {w} v≢w (key_new (new {n} {v = v} {o = o} unset can gives after)) = rw (← after) (put_other n.σ v w (Some o) v≢w)

  -- a created key leaves ρ
  key-ρ : {n n' : TermStores} {key : Key} {o : Term} → KeyCreates kind n key o n' → n'.ρ ≡ n.ρ
  key-ρ (key_set set) = refl
  key-ρ (key_new (new unset can gives after)) = ap (λ n. n.ρ) (sym after)
  key-ρ (key_op K unset gives after) = ap (λ n. n.ρ) (sym after) ∙ key-ρ K
  key-ρ (key_key_of unset set gives fits after) = ap (λ n. n.ρ) (sym after)

  -- the figure looks at k before K is created, the code after
  key_is_done : {n n' : TermStores} {key : Key} {o : Term} (row : ℕ) → Distinct key → KeyCreates kind n key o n' → create_key term_world kind row key n ≡ done (o, n')
  key_is_done row distinct (key_set set) = rw set
  key_is_done row distinct (key_new created) = new_is_done row created
  key_is_done row distinct (key_op K unset gives after) = rw (key_is_done row tt K, other_kept distinct K, unset, gives, after)
  key_is_done row distinct (key_key_of unset set gives fits after) = rw (set, gives, unset, fits, after)

  -- a made message is decoded into the variable of its form
  decoded_is_done : {n' : TermStores} {t m : Term} (row v : ℕ) (n : TermStores) → t ≡ m → v ∉ n.σ → Decodes kind n v m → set_object n v m ≡ n'
      → decodes term_world kind row v (Some t) n (made term_world kind) ≡ done (m, n')
  decoded_is_done row v n same unset fits after = rw (same, unset, fits, after)

  mutual
    unfolding RightKinds

    -- what the figure derives, the function does
    pub creates_is_done : {n n' : TermStores} {p : Pattern} {m : Term} → RightKinds true kind p → Creates kind n p m n' → create term_world kind p n ≡ done (m, n')
    creates_is_done right (object_set set) = rw set
    creates_is_done right (object_new created) = new_is_done _ created
    creates_is_done right (raw_set set) = rw set
    creates_is_done right (constant_rule unset gives after) = rw (unset, got_message gives, after)
    creates_is_done right (op_rule unset set gives after) = rw (set, unset, gives, after)
    creates_is_done right (op_new unset created again) = rw (new_is_done _ created) (rw (new_is_set created) at (creates_is_done right again))
    creates_is_done right (key_of_rule unset set gives fits after) = rw (set, gives, unset, fits, after)
    creates_is_done right (encryption_rule {e = e} {key = key} k body unset gives fits after) =
        let distinct = public_distinct key ((both (eqb (kind e) 7) _).0 right.0).1 in
        rw (key_is_done _ distinct k, creates_is_done right.1 body) (decoded_is_done _ _ _ (got_message gives) unset fits after)
    creates_is_done right (signature_rule {s = s} {r = r} {key = key} k unset set gives fits after) =
        let distinct = private_distinct key ((both (eqb (kind s) 8) _).0 right).1 in
        rw (key_is_done _ distinct k, ap (λ ρ. ρ r) (key-ρ k), set) (decoded_is_done _ _ _ (got_message gives) unset fits after)
    creates_is_done right (hash_rule unset set gives fits after) = rw set (decoded_is_done _ _ _ (got_message gives) unset fits after)
    creates_is_done right (tuple_rule parts unset gives after) = rw (parts_are_done right.1 parts, unset, got_message gives, after)
    creates_is_done right (let_rule first unset second) = rw (creates_is_done right.0 first, unset) (creates_is_done right.1 second)

    parts_are_done : {n n' : TermStores} {ps : Parts} {ms : List Term} → RightParts true kind ps → CreatesParts kind n ps ms n'
        → create_parts term_world kind ps n ≡ done (ms, n')
    parts_are_done right no_more = refl
    parts_are_done right (one_more first rest) = rw (creates_is_done right.0 first, parts_are_done right.1 rest)

  done_is_variable : (row v : ℕ) (n : TermStores) (o : Option Term) (r : Term × TermStores) → n.σ v ≡ o → get_variable term_world kind row v o n ≡ done r
      → KeyCreates kind n (plain_key v) r.0 r.1
  done_is_variable row v n (Some a) r set e = carried (KeyCreates kind n (plain_key v)) e (key_set set)
  done_is_variable row v n None r unset e = go (creatable (kind v)) refl e
    where
      created : Outcome (Term × TermStores)
      created =
          bind (at row (term_world.apply (Voc.create (kind v)) n.memory)) λ x.
          made term_world kind x.0 (set_object (set_memory term_world n x.1) v x.0)

      go : (c : Bool) → creatable (kind v) ≡ c → cond c created (stuck row (reason_number Unset)) ≡ done r → KeyCreates kind n (plain_key v) r.0 r.1
      go true can e =
          let (x, gives, e) = at_then row (term_world.apply (Voc.create (kind v)) n.memory) _ _ e in
          carried (KeyCreates kind n (plain_key v)) e (key_new (new unset can gives refl))
      go false cannot e = stuck_not_done e

  done_is_key : (row : ℕ) (key : Key) (n : TermStores) (r : Term × TermStores) → Distinct key → create_key term_world kind row key n ≡ done r
      → KeyCreates kind n key r.0 r.1
  done_is_key row (plain_key v) n r distinct e = done_is_variable row v n (n.σ v) r refl e
  done_is_key row (op_key k K) n r distinct e =
      let (a, read, e) = bind_then (get_variable term_world kind row K (n.σ K) n) _ _ e in
      let first = done_is_variable row K n (n.σ K) a refl read in
      let (unset, e) = free_then row (a.1.σ k) _ _ e in
      let (o, gives, e) = gives_then row (Voc.op a.0) a.1 _ _ tt e in
      carried (KeyCreates kind n (op_key k K)) e (key_op first (sym (other_kept distinct first) ∙ unset) gives refl)
  done_is_key row (certified_key k a) n r distinct e =
      let (b, set, e) = need_then row (n.σ a) _ _ e in
      let (o, gives, e) = gives_then row (Voc.key_of b) n _ _ tt e in
      let (unset, fits, e) = decodes_then kind row k o n _ _ e in
      carried (KeyCreates kind n (certified_key k a)) e (key_key_of unset set gives fits refl)

  -- what creates a key creates the form that reads as it does
  object_of_key : {n n' : TermStores} {v : ℕ} {m : Term} (row : ℕ) → KeyCreates kind n (plain_key v) m n' → Creates kind n (object row v) m n'
  object_of_key row (key_set set) = object_set set
  object_of_key row (key_new created) = object_new created

  op_of_key : {n n' : TermStores} {k K : ℕ} {m : Term} (row : ℕ) → K ≢ k → KeyCreates kind n (op_key k K) m n' → Creates kind n (opposite row k K) m n'
  op_of_key row K≢k (key_op (key_set set) unset gives after) = op_rule unset set gives after
  op_of_key row K≢k (key_op (key_new created) unset gives after) =
      op_new unset created (op_rule (other_kept K≢k (key_new created) ∙ unset) (new_is_set created) gives after)

  key_of_of_key : {n n' : TermStores} {k a : ℕ} {m : Term} (row : ℕ) → KeyCreates kind n (certified_key k a) m n' → Creates kind n (key_of row k a) m n'
  key_of_of_key row (key_key_of unset set gives fits after) = key_of_rule unset set gives fits after

  mutual
    unfolding RightKinds

    -- what the function does, the figure derives
    pub done_is_creates : (p : Pattern) (n n' : TermStores) (m : Term) → RightKinds true kind p → create term_world kind p n ≡ done (m, n') → Creates kind n p m n'
    done_is_creates (object row v) n n' m right e = object_of_key row (done_is_key row (plain_key v) n (m, n') tt e)
    done_is_creates (raw row r) n n' m right e =
        let (a, set, e) = need_then row (n.ρ r) _ _ e in
        carried (Creates kind n (raw row r)) e (raw_set set)
    done_is_creates (constant row c b) n n' m right e =
        let (unset, e) = free_then row (n.σ c) _ _ e in
        carried (Creates kind n (constant row c b)) e (constant_rule unset refl refl)
    done_is_creates (opposite row k K) n n' m right e =
        let distinct = op_distinct k K right in
        op_of_key row distinct (done_is_key row (op_key k K) n (m, n') distinct e)
    done_is_creates (key_of row k a) n n' m right e = key_of_of_key row (done_is_key row (certified_key k a) n (m, n') tt e)
    done_is_creates (encryption row v key p) n n' m right e =
        let distinct = public_distinct key ((both (eqb (kind v) 7) _).0 right.0).1 in
        let (k, read, e) = bind_then (create_key term_world kind row key n) _ _ e in
        let (b, body, e) = bind_then (create term_world kind p k.1) _ _ e in
        let (unset, fits, e) = decodes_then kind row v (encrypted k.0 b.0) b.1 _ (m, n') e in
        carried (Creates kind n (encryption row v key p)) e
        (encryption_rule (done_is_key row key n k distinct read) (done_is_creates p k.1 b.1 b.0 right.1 body) unset refl fits refl)
    done_is_creates (signature row s key r) n n' m right e =
        let distinct = private_distinct key ((both (eqb (kind s) 8) _).0 right).1 in
        let (k, read, e) = bind_then (create_key term_world kind row key n) _ _ e in
        let signer = done_is_key row key n k distinct read in
        let (b, set, e) = need_then row (k.1.ρ r) _ _ e in
        let (unset, fits, e) = decodes_then kind row s (signed k.0 b) k.1 _ (m, n') e in
        carried (Creates kind n (signature row s key r)) e (signature_rule signer unset (ap (λ ρ. ρ r) (sym (key-ρ signer)) ∙ set) refl fits refl)
    done_is_creates (hash row h r) n n' m right e =
        let (b, set, e) = need_then row (n.ρ r) _ _ e in
        let (unset, fits, e) = decodes_then kind row h (hashed b) n _ _ e in
        carried (Creates kind n (hash row h r)) e (hash_rule unset set refl fits refl)
    done_is_creates (tuple row t ps) n n' m right e =
        let (ms, parts, e) = bind_then (create_parts term_world kind ps n) _ _ e in
        let (unset, e) = free_then row (ms.1.σ t) _ _ e in
        carried (Creates kind n (tuple row t ps)) e (tuple_rule (done_are_parts ps n ms right.1 parts) unset refl refl)
    done_is_creates (let_in row r p₁ p₂) n n' m right e =
        let (b, first, e) = bind_then (create term_world kind p₁ n) _ _ e in
        let (unset, e) = free_then row (b.1.ρ r) _ _ e in
        let_rule (done_is_creates p₁ n b.1 b.0 right.0 first) unset (done_is_creates p₂ (set_raw b.1 r b.0) n' m right.1 e)

    done_are_parts : (ps : Parts) (n : TermStores) (r : List Term × TermStores) → RightParts true kind ps → create_parts term_world kind ps n ≡ done r
        → CreatesParts kind n ps r.0 r.1
    done_are_parts end n r right e = carried (CreatesParts kind n end) e no_more
    done_are_parts (part p ps) n r right e =
        let (m, first, e) = bind_then (create term_world kind p n) _ _ e in
        let (ms, rest, e) = bind_then (create_parts term_world kind ps m.1) _ _ e in
        carried (CreatesParts kind n (part p ps)) e
        (one_more (done_is_creates p n m.1 m.0 right.0 first) (done_are_parts ps m.1 ms right.1 rest))

  -- stores and pattern decide the created message and the stores after it
  pub creates_once : {n n₁ n₂ : TermStores} {p : Pattern} {m₁ m₂ : Term} → RightKinds true kind p → Creates kind n p m₁ n₁ → Creates kind n p m₂ n₂
      → (m₁ ≡ m₂) × (n₁ ≡ n₂)
  creates_once right one other =
      let e = done_inj (sym (creates_is_done right one) ∙ creates_is_done right other) in
      (ap (λ r. r.0) e, ap (λ r. r.1) e)
