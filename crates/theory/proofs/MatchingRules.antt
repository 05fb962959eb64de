-- Figure 2's relation is the function `match` over terms.
use Prim.Native.Nat.{ℕ, zero, suc}
use mathlib.Core.Path.{◌≡◌, refl, sym, ◌∙◌, ap, subst}
use mathlib.Core.Logic.{◌≢◌}
use mathlib.Core.Bool.{Bool, true, false, ◌&&◌}
use Rattle.std.specs.Prelude.{Option, None, Some}
use mathlib.Core.List.{List, [], ◌∷◌}
use native.Mathlib.Omega.{arith}
use borrow.Author.Tests.{eqb-true, eq-eqb}
use lib.Dec.{T, eqb}
use lib.ListN.{length, get_or}
use Rattle.word.proofs.TestLaws.{both}
use Rattle.word.specs.Lowest.{one_of}
use Rattle.answers.specs.Numbers.{reason_number}
use Rattle.answers.specs.declared.Reason.TheVariants.{PartCount}
use Rattle.patterns.specs.Pattern.{Key, plain_key, op_key, certified_key, Pattern, object, raw, constant, opposite, key_of, encryption, signature, hash, tuple, let_in, Parts, end, part, count}
use Rattle.patterns.specs.Kinds.{public_side, RightKinds, RightParts}
use Rattle.theory.specs.Outcome.{Outcome, done, bind, got, and_then, sure, at}
use Rattle.theory.specs.Store.{put}
use Rattle.theory.specs.World as Voc
use Rattle.theory.specs.Rules.{match, match_parts, match_key, match_object, match_raw}
use Rattle.theory.specs.TermModel.{Term, atom, encrypted, signed, hashed, tupled, Terms, nil, cons, Names, collected, listed, term_world}
use Rattle.theory.specs.Figure2.{TermStores, set_object, Gives, KeyMatches, Matches, MatchesParts, key_variable, key_op, key_key_of, no_more, one_more, object_set, raw_set, object_new, raw_new, constant_rule, op_rule, key_of_rule, signature_rule, hash_rule, tuple_rule, let_rule, encryption_rule}
use Rattle.theory.proofs.StoreLaws.{put_other, put_back, put_comm}
use Rattle.theory.proofs.Meaning.{shape_listed}
use Rattle.theory.proofs.FigureLaws.{stuck_not_done, done_inj, bind_then, at_then, need_then, free_then, got_message, same_self, same_then, gives_then, decodes_then, apart}

-- the parts of a tuple as a list
collected_listed : (ts : Terms) → collected (listed ts) ≡ ts
collected_listed nil = refl
collected_listed (cons t ts) = ap (cons t) (collected_listed ts)

-- from place i on g shows the parts ms
abbrev Shows : (ℕ → Term) → ℕ → List Term → Type 0
Shows g i [] = Unit {0}
Shows g i (m ∷ ms) = (g i ≡ m) × Shows g (suc i) ms

shows_later : (g : ℕ → Term) (i : ℕ) (ms : List Term) → Shows (λ j. g (suc j)) i ms → Shows g (suc i) ms
shows_later g i [] s = tt
shows_later g i (m ∷ ms) s = (s.0, shows_later g (suc i) ms s.1)

get_or_shows : (ms : List Term) (m : Term) → Shows (λ i. get_or ms i m) zero ms
get_or_shows [] m = tt
get_or_shows (a ∷ ms) m = (refl, shows_later (λ i. get_or (a ∷ ms) i m) zero ms (get_or_shows ms m))

parts_are : (m : Term) (ms : List Term) (k : ℕ) (x : Names) → m ≡ tupled (collected ms) → length ms ≡ k → term_world.parts m k x ≡ got (λ i. get_or ms i m)
parts_are m ms k x whole counted = rw whole (rw (shape_listed ms, eq-eqb _ _ counted))

parts_then : {B : Type 0} (row : ℕ) (m : Term) (k : ℕ) (x : Names) (f : (ℕ → Term) → Outcome B) (b : B) → bind (at row (term_world.parts m k x)) f ≡ done b
    → (ms : List Term) × (m ≡ tupled (collected ms)) × (length ms ≡ k) × (f (λ i. get_or ms i m) ≡ done b)
parts_then row (tupled ts) k x f b e = go (eqb (length (listed ts)) k) refl e
  where
    go : (fits : Bool) → eqb (length (listed ts)) k ≡ fits
        → bind (at row (and_then (sure (reason_number PartCount) fits) λ _. got (λ i. get_or (listed ts) i (tupled ts)))) f ≡ done b
        → (ms : List Term) × (tupled ts ≡ tupled (collected ms)) × (length ms ≡ k) × (f (λ i. get_or ms i (tupled ts)) ≡ done b)
    go true counted e = (listed ts, ap tupled (sym (collected_listed ts)), eqb-true _ _ counted, e)
    go false counted e = stuck_not_done e
parts_then row (atom tag number) k x f b e = stuck_not_done e
parts_then row (encrypted l c) k x f b e = stuck_not_done e
parts_then row (signed l c) k x f b e = stuck_not_done e
parts_then row (hashed c) k x f b e = stuck_not_done e

-- the variable of S is none of its key's
abbrev Beside : ℕ → Key → Type 0
Beside s (plain_key v) = s ≢ v
Beside s (op_key k K) = (s ≢ k) × (s ≢ K)
Beside s (certified_key k a) = (s ≢ k) × (s ≢ a)

module _ (kind : ℕ → ℕ) where
  beside : (s : ℕ) (key : Key) → T (eqb (kind s) 8 && public_side kind key) → Beside s key
  unfolding one_of
  beside s (plain_key v) t = apart kind s v 8 (one_of (4 ∷ 6 ∷ [])) t (λ u. u)
  beside s (op_key k K) t =
      (apart kind s k 8 (λ x. eqb x 4 && eqb (kind K) 5) t (λ u. u), apart kind s K 8 (λ x. eqb (kind k) 4 && eqb x 5) t (λ u. ((both (eqb (kind k) 4) false).0 u).1))
  beside s (certified_key k a) t =
      (apart kind s k 8 (λ x. eqb x 4 && eqb (kind a) 3) t (λ u. u), apart kind s a 8 (λ x. eqb (kind k) 4 && eqb x 3) t (λ u. ((both (eqb (kind k) 4) false).0 u).1))

  -- a matched key writes σ only
  key-ρ : {n n' : TermStores} {key : Key} {o : Term} → KeyMatches kind n key o n' → n'.ρ ≡ n.ρ
  key-ρ (key_variable set) = refl
  key-ρ (key_op unset set gives after) = ap (λ n. n.ρ) (sym after)
  key-ρ (key_key_of unset set gives fits after) = ap (λ n. n.ρ) (sym after)

  key_memory : {n n' : TermStores} {key : Key} {o : Term} → KeyMatches kind n key o n' → n'.memory ≡ n.memory
  key_memory (key_variable set) = refl
  key_memory (key_op unset set gives after) = ap (λ n. n.memory) (sym after)
  key_memory (key_key_of unset set gives fits after) = ap (λ n. n.memory) (sym after)

  -- the figure looks at the key before s is written, the code after
  key_is_done : {n n' : TermStores} {key : Key} {o : Term} (row s : ℕ) (m : Term) (f : Term → TermStores → Outcome TermStores) → Beside s key
      → KeyMatches kind n key o n' → match_key term_world kind row key (set_object n s m) f ≡ f o (set_object n' s m)
  key_is_done row s m f s≢v (key_variable set) = rw (put_other, set)
  key_is_done row s m f others (key_op {K = K} unset set gives after) =
      let (s≢k, s≢K) = others in
      rw (put_other _ s K, set, put_other, unset, gives, put_comm, ← after)
  key_is_done row s m f others (key_key_of {a = a} unset set gives fits after) =
      let (s≢k, s≢a) = others in
      rw (put_other _ s a, set, gives, put_other, unset, fits, put_comm, ← after)

  done_is_key : (row s : ℕ) (m : Term) (key : Key) (n n' : TermStores) (f : Term → TermStores → Outcome TermStores) → Beside s key
      → match_key term_world kind row key (set_object n s m) f ≡ done n'
      → (o : Term) × (n₁ : TermStores) × KeyMatches kind n key o n₁ × (f o (set_object n₁ s m) ≡ done n')
  done_is_key row s m (plain_key v) n n' f s≢v e =
      let (o, set, e) = need_then row (put n.σ s (Some m) v) _ _ e in
      (o, n, key_variable (put_back n.σ (Some m) s≢v set), e)
  done_is_key row s m (op_key k K) n n' f others e =
      let (s≢k, s≢K) = others in
      let (a, set, e) = need_then row (put n.σ s (Some m) K) _ _ e in
      let (unset, e) = free_then row (put n.σ s (Some m) k) _ _ e in
      let (o, gives, e) = gives_then row (Voc.op a) n _ _ tt e in
      (o, _, key_op (put_back n.σ (Some m) s≢k unset) (put_back n.σ (Some m) s≢K set) gives refl, rw put_comm at e)
  done_is_key row s m (certified_key k a) n n' f others e =
      let (s≢k, s≢a) = others in
      let (b, set, e) = need_then row (put n.σ s (Some m) a) _ _ e in
      let (o, gives, e) = gives_then row (Voc.key_of b) n _ _ tt e in
      let (unset, fits, e) = decodes_then kind row k o (set_object n s m) _ _ e in
      (o, _, key_key_of (put_back n.σ (Some m) s≢k unset) (put_back n.σ (Some m) s≢a set) gives fits refl, rw put_comm at e)

  parts_count : {n n' : TermStores} {ps : Parts} {ms : List Term} → MatchesParts kind n ps ms n' → length ms ≡ count ps
  unfolding count
  parts_count no_more = refl
  parts_count (one_more first rest) = ap suc (parts_count rest)

  mutual
    unfolding RightKinds one_of

    -- what the figure derives, the function does
    pub matches_is_done : {n n' : TermStores} {p : Pattern} {m : Term} → RightKinds false kind p → Matches kind n p m n' → match term_world kind p (Some m) n ≡ done n'
    matches_is_done right (object_set {m = m} set) = rw (set, same_self m)
    matches_is_done right (raw_set {m = m} set) = rw (set, same_self m)
    matches_is_done right (object_new unset fits after) = rw (unset, unset, fits, after)
    matches_is_done right (raw_new unset after) = rw (unset, unset, after)
    matches_is_done right (constant_rule {m = m} unset gives after) = rw (unset, got_message gives, same_self m, after)
    matches_is_done right (op_rule {m = m} unset set gives after) = rw (set, unset, gives, same_self m, after)
    matches_is_done right (key_of_rule {k = k} {a = a} {m = m} unset set gives fits after) =
        let k≢a = apart kind k a 4 (λ x. eqb x 3) right (λ u. u) in
        rw (unset, fits, put_other, set, gives, same_self m, after)
    matches_is_done right (signature_rule {row = row} {s = s} {key = key} {m = m} k unset set verified fits after) =
        rw (unset, fits, key_is_done row s m _ (beside s key right) k, key-ρ k, set, key_memory k, verified, ← key-ρ k, ← key_memory k, after)
    matches_is_done right (hash_rule {m = m} unset set gives fits after) = rw (unset, fits, set, got_message gives, same_self m, after)
    matches_is_done right (tuple_rule {ps = ps} {ms = ms} {m = m} unset fits whole parts) =
        rw (unset, fits, parts_are m ms (count ps) _ whole (parts_count parts)) (parts_are_done (λ i. get_or ms i m) zero right.1 (get_or_shows ms m) parts)
    matches_is_done right (let_rule unset first set second) = rw (unset, matches_is_done right.1 first, set) (matches_is_done right.0 second)
    matches_is_done right (encryption_rule {e = e} (key_variable {v = v} set) unset fits gives body) =
        let e≢v = apart kind e v 7 (one_of (5 ∷ 6 ∷ [])) right.0 (λ u. u) in
        rw (unset, fits, put_other, set, gives) (matches_is_done right.1 body)
    matches_is_done right (encryption_rule {e = e} (key_op _ _ _ _) unset fits gives body) = absurd ((both (eqb (kind e) 7) false).0 right.0).1
    matches_is_done right (encryption_rule {e = e} (key_key_of _ _ _ _ _) unset fits gives body) = absurd ((both (eqb (kind e) 7) false).0 right.0).1

    parts_are_done : {n n' : TermStores} {ps : Parts} {ms : List Term} (g : ℕ → Term) (i : ℕ) → RightParts false kind ps → Shows g i ms → MatchesParts kind n ps ms n'
        → match_parts term_world kind ps i g n ≡ done n'
    parts_are_done g i right shown no_more = refl
    parts_are_done g i right shown (one_more first rest) =
        rw (shown.0, matches_is_done right.0 first) (parts_are_done g (suc i) right.1 shown.1 rest)

  done_is_object : (row v : ℕ) (n n' : TermStores) (m : Term) (o : Option Term) → n.σ v ≡ o → match_object term_world kind row v o (Some m) n ≡ done n'
      → Matches kind n (object row v) m n'
  done_is_object row v n n' m (Some a) set e =
      let (same, e) = same_then row a m n _ _ e in
      subst (Matches kind n (object row v) m) (done_inj e) (object_set (set ∙ ap Some same))
  done_is_object row v n n' m None unset e =
      let (_, fits, e) = decodes_then kind row v m n _ _ e in
      object_new unset fits (done_inj e)

  done_is_raw : (row r : ℕ) (n n' : TermStores) (m : Term) (o : Option Term) → n.ρ r ≡ o → match_raw term_world kind row r o (Some m) n ≡ done n'
      → Matches kind n (raw row r) m n'
  done_is_raw row r n n' m (Some a) set e =
      let (same, e) = same_then row m a n _ _ e in
      subst (Matches kind n (raw row r) m) (done_inj e) (raw_set (set ∙ ap Some (sym same)))
  done_is_raw row r n n' m None unset e =
      let (_, e) = free_then row (n.ρ r) _ _ e in
      raw_new unset (done_inj e)

  mutual
    unfolding RightKinds one_of count

    -- what the function does, the figure derives
    pub done_is_matches : (p : Pattern) (n n' : TermStores) (m : Term) → RightKinds false kind p → match term_world kind p (Some m) n ≡ done n' → Matches kind n p m n'
    done_is_matches (object row v) n n' m right e = done_is_object row v n n' m (n.σ v) refl e
    done_is_matches (raw row r) n n' m right e = done_is_raw row r n n' m (n.ρ r) refl e
    done_is_matches (constant row c b) n n' m right e =
        let (unset, e) = free_then row (n.σ c) _ _ e in
        let (same, e) = same_then row (atom 1 b) m n _ _ e in
        subst (λ m. Matches kind n (constant row c b) m n') same (constant_rule unset refl (done_inj e))
    done_is_matches (opposite row k K) n n' m right e =
        let (a, set, e) = need_then row (n.σ K) _ _ e in
        let (unset, e) = free_then row (n.σ k) _ _ e in
        let (o, gives, e) = gives_then row (Voc.op a) n _ _ tt e in
        let (same, e) = same_then row o m n _ _ e in
        subst (λ m. Matches kind n (opposite row k K) m n') same (op_rule unset set gives (done_inj e))
    done_is_matches (key_of row k a) n n' m right e =
        let (unset, fits, e) = decodes_then kind row k m n _ _ e in
        let (b, set, e) = need_then row (put n.σ k (Some m) a) _ _ e in
        let (o, gives, e) = gives_then row (Voc.key_of b) n _ _ tt e in
        let (same, e) = same_then row o m n _ _ e in
        let k≢a = apart kind k a 4 (λ x. eqb x 3) right (λ u. u) in
        key_of_rule unset (put_back n.σ (Some m) k≢a set) (subst (Gives n (Voc.key_of b)) same gives) fits (done_inj e)
    done_is_matches (encryption row v (plain_key x) p) n n' m right e =
        let (unset, fits, e) = decodes_then kind row v m n _ _ e in
        let (o, set, e) = need_then row (put n.σ v (Some m) x) _ _ e in
        let (b, gives, e) = gives_then row (Voc.decrypt o m) n _ _ tt e in
        let v≢x = apart kind v x 7 (one_of (5 ∷ 6 ∷ [])) right.0 (λ u. u) in
        encryption_rule (key_variable (put_back n.σ (Some m) v≢x set)) unset fits gives (done_is_matches p _ n' b right.1 e)
    done_is_matches (encryption row v (op_key k K) p) n n' m right e = stuck_not_done e
    done_is_matches (encryption row v (certified_key k a) p) n n' m right e = stuck_not_done e
    done_is_matches (signature row s key r) n n' m right e =
        let (unset, fits, e) = decodes_then kind row s m n _ _ e in
        let (o, n₁, k, e) = done_is_key row s m key n n' _ (beside s key right) e in
        let (b, set, e) = need_then row (n₁.ρ r) _ _ e in
        let (_, verified, e) = at_then row (term_world.test (Voc.verify o b m) n₁.memory) _ _ e in
        signature_rule k unset (ap (λ ρ. ρ r) (sym (key-ρ k)) ∙ set) (subst (λ x. term_world.test (Voc.verify o b m) x ≡ got tt) (key_memory k) verified) fits (done_inj e)
    done_is_matches (hash row h r) n n' m right e =
        let (unset, fits, e) = decodes_then kind row h m n _ _ e in
        let (b, set, e) = need_then row (n.ρ r) _ _ e in
        let (same, e) = same_then row (hashed b) m n _ _ e in
        hash_rule unset set (ap (λ m. got (m, n.memory)) same) fits (done_inj e)
    done_is_matches (tuple row t ps) n n' m right e =
        let (unset, fits, e) = decodes_then kind row t m n _ _ e in
        let (ms, whole, counted, e) = parts_then row m (count ps) n.memory _ _ e in
        tuple_rule unset fits whole (done_are_parts ps ms _ n' (λ i. get_or ms i m) zero right.1 counted (get_or_shows ms m) e)
    done_is_matches (let_in row r p₁ p₂) n n' m right e =
        let (unset, e) = free_then row (n.ρ r) _ _ e in
        let (n₁, first, e) = bind_then (match term_world kind p₂ (Some m) n) _ _ e in
        let (b, set, e) = need_then row (n₁.ρ r) _ _ e in
        let_rule unset (done_is_matches p₂ n n₁ m right.1 first) set (done_is_matches p₁ n₁ n' b right.0 e)

    done_are_parts : (ps : Parts) (ms : List Term) (n n' : TermStores) (g : ℕ → Term) (i : ℕ) → RightParts false kind ps → length ms ≡ count ps → Shows g i ms
        → match_parts term_world kind ps i g n ≡ done n' → MatchesParts kind n ps ms n'
    done_are_parts end [] n n' g i right counted shown e = subst (MatchesParts kind n end []) (done_inj e) no_more
    done_are_parts end (m ∷ ms) n n' g i right counted shown e = absurd (omega arith)
    done_are_parts (part p ps) [] n n' g i right counted shown e = absurd (omega arith)
    done_are_parts (part p ps) (m ∷ ms) n n' g i right counted shown e =
        let (n₁, first, e) = bind_then (match term_world kind p (Some (g i)) n) _ _ e in
        one_more
        (subst (λ m. Matches kind n p m n₁) shown.0 (done_is_matches p n n₁ (g i) right.0 first))
        (done_are_parts ps ms n₁ n' g (suc i) right.1 (omega arith) shown.1 e)

  -- stores, pattern and message decide the stores after a match
  pub matches_once : {n n₁ n₂ : TermStores} {p : Pattern} {m : Term} → RightKinds false kind p → Matches kind n p m n₁ → Matches kind n p m n₂ → n₁ ≡ n₂
  matches_once right one other = done_inj (sym (matches_is_done right one) ∙ matches_is_done right other)
