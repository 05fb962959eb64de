-- Compiled code is within its limits: below 8 words and 2 scratch numbers for each row of the pattern, and every operand fits.
use mathlib.Core.Path.{◌≡◌, refl, subst}
use mathlib.Core.Bool.{Bool, true, false, cond, ◌&&◌}
use mathlib.Core.Logic.{◌⊎◌, inl, inr, ⊎_elim}
use mathlib.Core.List.{List, [], ◌∷◌}
use Prim.Native.Nat.{ℕ, suc, ◌+◌, ◌*◌, ◌-◌, ◌<◌, ◌≤◌}
use native.Mathlib.Omega.{arith}
use lib.ListN.{length, length-append}
use lib.Dec.{T, not_T, eqb, ltb, leb, eqb→eq, lt→ltb, nltb→le, le→leb}
use Rattle.word.specs.Lowest.{one_of}
use Rattle.word.proofs.All.{all_append}
use Rattle.word.proofs.TestLaws.{both, stable, at_most}
use Rattle.word.proofs.LowestLaws.{one_of_two}
use Rattle.word.proofs.OneOfLaws.{from, one_up_to}
use Rattle.answers.specs.declared.Compiled.{Compiled}
use Rattle.answers.specs.declared.Compiled.TheVariants.{WrittenWhileSet, ReadWhileUnset}
use Rattle.numbers.specs.Sorts.{as_object}
use Rattle.code.specs.Words.{has_kind}
use Rattle.code.specs.declared.Instruction.{Instruction}
use Rattle.patterns.specs.Pattern.{Key, plain_key, op_key, certified_key, Pattern, object, raw, constant, opposite, key_of, encryption, signature, hash, tuple, let_in, Parts, end, part, count, size, sizes, RawsBelow, PartsBelow, Packed, PackedParts}
use Rattle.patterns.specs.Kinds.{RightKinds, RightParts, private_side, public_side}
use Rattle.patterns.proofs.PatternLaws.{size_positive, count_sizes}
use Rattle.theory.specs.Store.{put}
use Rattle.theory.specs.World.{creatable}
use Rattle.theory.specs.Machine.{Line, line_at, named, scratch}
use Rattle.theory.specs.Emission.{Env, Emitted, ok, refuse, behind, and_then, add_object, readable, occupied, add_raw, writes, one, reading, writing, emit, ◌then◌}
use Rattle.theory.specs.Uses.{Used, object_at, message_at, messages_at, uses_of}
use Rattle.theory.specs.Bounds.{InRange, AllInRange, InLimits}
use Rattle.theory.specs.Compilers.{compile↓, compile↓parts, compile↑, compile↑parts, compile↑K, key_var, creating, verifying, LOAD, STORE, DECODE, ENCODE, ANALYZE_TUPLE, OPPOSITE, KEY_OF, MATCH, VERIFY}

-- what emission refuses with, where kinds are right: 6 or 7
pub data Refusal : Compiled → Type 0 where
  written : {row : ℕ} → Refusal (WrittenWhileSet row)
  read : {row : ℕ} → Refusal (ReadWhileUnset row)

-- at most so many words, scratch numbers below one, and fitting lines
module _ (kind : ℕ → ℕ) where
  unfoldable TakesT : ℕ → ℕ → Emitted → Type 0
  TakesT w n (ok c e) = (length c ≤ w) × (e.next ≤ n) × AllInRange kind c
  TakesT w n (refuse answer) = Refusal answer

  record Takes (w n : ℕ) (E : Emitted) : Type 0 where
    taken : TakesT w n E

  refused : (w n : ℕ) {answer : Compiled} → Refusal answer → Takes w n (refuse answer)
  unfolding TakesT
  refused w n r = record { taken = r }

  nothing : (w n : ℕ) (e : Env) → e.next ≤ n → Takes w n (ok [] e)
  unfolding TakesT
  nothing w n e h = record { taken = (omega arith, h, tt) }

  choice : (b : Bool) (w n : ℕ) (C D : Emitted) → (T b → Takes w n C) → Takes w n D → Takes w n (cond b C D)
  choice true w n C D c d = c tt
  choice false w n C D c d = d

  -- a part of w₁ words, and then
  follows : (w₁ n₁ w n : ℕ) (C : Emitted) (K : Env → Emitted) → w₁ ≤ w → Takes w₁ n₁ C → ((e : Env) → e.next ≤ n₁ → Takes (w - w₁) n (K e)) → Takes w n (and_then C K)
  unfolding TakesT and_then behind
  follows w₁ n₁ w n (refuse answer) K h t k = record { taken = t.taken }
  follows w₁ n₁ w n (ok c e) K h t k = go (K e) (k e t.taken.1)
    where
      go : (D : Emitted) → Takes (w - w₁) n D → Takes w n (behind c D)
      go (refuse answer) u = record { taken = u.taken }
      go (ok d e') u = record { taken = (simp length-append (omega (arith, t.taken.0, u.taken.0)), u.taken.1, all_append (λ l. InRange kind l.instruction) c d t.taken.2 u.taken.2) }

  -- an instruction is one word, if any, and takes no scratch
  one_word : (row : ℕ) (i : Instruction) (e e' : Env) (n : ℕ) → e'.next ≡ e.next → e.next ≤ n → InRange kind i → Takes 1 n (ok (line_at row i ∷ []) e')
  unfolding TakesT
  one_word row i e e' n p h f = record { taken = (omega arith, omega arith, (f, tt)) }

-- add_raw keeps the scratch number
added : (e : Env) (cell : ℕ) → (add_raw e cell).next ≡ e.next
unfolding add_raw
added e cell = go (ltb cell 64)
  where
    go : (b : Bool) → (cond b (record { objects = e.objects; raws = put e.raws cell true; next = e.next }) e).next ≡ e.next
    go true = refl
    go false = refl

module _ (kind : ℕ → ℕ) (row n : ℕ) (i : Instruction) (f : InRange kind i) where
  -- its uses refuse, or go on with as many scratch numbers
  writes_word : (us : List Used) (e : Env) → e.next ≤ n → Takes kind 1 n (writing row us (one row i) e)
  writes_word [] e h = one_word kind row i e e n refl h f
  writes_word (object_at v ∷ us) e h = choice kind (e.objects v) 1 n _ _ (λ _. refused kind 1 n written) (writes_word us (add_object e v) h)
  writes_word (message_at r ∷ us) e h =
      choice kind (occupied e r) 1 n _ _ (λ _. refused kind 1 n written) (writes_word us (add_raw e r) (rw (added e r) h))
  writes_word (messages_at b k ∷ us) e h = writes_word us e h

  reads_word : (us vs : List Used) (e : Env) → e.next ≤ n → Takes kind 1 n (reading row us (writing row vs (one row i)) e)
  reads_word [] vs e h = writes_word vs e h
  reads_word (object_at v ∷ us) vs e h = choice kind (e.objects v) 1 n _ _ (λ _. reads_word us vs e h) (refused kind 1 n read)
  reads_word (message_at r ∷ us) vs e h = choice kind (readable e r) 1 n _ _ (λ _. reads_word us vs e h) (refused kind 1 n read)
  reads_word (messages_at b k ∷ us) vs e h = reads_word us vs e h

  emit_word : (e : Env) → e.next ≤ n → Takes kind 1 n (emit row i e)
  unfolding emit
  emit_word e h = reads_word (uses_of i).reads (uses_of i).writes e h

-- an instruction, and then; and the last one
module _ (kind : ℕ → ℕ) (row : ℕ) where
  first : (i : Instruction) → InRange kind i → (m w n : ℕ) (K : Env → Emitted) (e : Env) → 1 ≤ w → e.next ≤ m
      → ((e' : Env) → e'.next ≤ m → Takes kind (w - 1) n (K e')) → Takes kind w n (and_then (emit row i e) K)
  first i f m w n K e l h k = follows kind 1 m w n (emit row i e) K l (emit_word kind row m i f e h) k

  wider : (v w n : ℕ) (C : Emitted) → v ≤ w → Takes kind v n C → Takes kind w n C
  unfolding TakesT
  wider v w n (ok c e) l t = record { taken = (omega (arith, t.taken.0), t.taken.1, t.taken.2) }
  wider v w n (refuse answer) l t = record { taken = t.taken }

  final : (i : Instruction) → InRange kind i → (w n : ℕ) (e : Env) → 1 ≤ w → e.next ≤ n → Takes kind w n (emit row i e)
  final i f w n e l h = wider 1 w n (emit row i e) l (emit_word kind row n i f e h)

-- kinds that operands have: a variable past the kinds is undeclared
module _ (kind : ℕ → ℕ) (declared : (v : ℕ) → 64 ≤ v → kind v ≡ 0) where
  inside : (v : ℕ) → (kind v ≡ 0 → ⊥) → T (ltb v 64)
  inside v n = stable (ltb v 64) λ out. n (declared v (nltb→le v 64 (not_T (ltb v 64) out)))

  -- of one kind, or of two
  has : (v k : ℕ) (ks : List ℕ) → kind v ≡ suc k → T (one_of ks (suc k)) → T (has_kind kind (as_object v) ks)
  has v k ks e t = (both (ltb v 64) (one_of ks (kind v))).1 (inside v (λ z. let c : ◌≡◌ {A = ℕ} 0 (suc k) = cc in omega arith), rw e t)

  has_either : (v a b : ℕ) (ks : List ℕ) → T (one_of (suc a ∷ suc b ∷ []) (kind v)) → T (one_of ks (suc a)) → T (one_of ks (suc b)) → T (has_kind kind (as_object v) ks)
  has_either v a b ks t p q = ⊎_elim (λ e. has v a ks e p) (λ e. has v b ks e q) ((one_of_two (suc a) (suc b) (kind v)).0 t)

  -- 1 to 9, and any declared kind
  abbrev any : List ℕ
  any = from 1 10

  any_kind : (n : ℕ) → 1 ≤ n → n ≤ 9 → T (one_of any n)
  any_kind n h l = subst T (one_up_to 1 10 n h) (lt→ltb n 11 (omega arith))

  -- instructions that fit
  has_any : (v : ℕ) → 1 ≤ kind v → kind v ≤ 9 → T (has_kind kind (as_object v) any)
  has_any v h l = (both (ltb v 64) (one_of any (kind v))).1 (inside v (λ z. omega arith), any_kind (kind v) h l)

  decode_fits : (v k : ℕ) → kind v ≡ suc k → T (one_of any (suc k)) → InRange kind (DECODE v)
  decode_fits v k e t = record { operands = has v k any e t; cells = tt }

  encode_fits : (v k : ℕ) → kind v ≡ suc k → T (one_of any (suc k)) → InRange kind (ENCODE v)
  encode_fits v k e t = record { operands = has v k any e t; cells = tt }

  opposite_fits : (k K : ℕ) → kind k ≡ 4 → kind K ≡ 5 → InRange kind (OPPOSITE K k)
  unfolding one_of
  opposite_fits k K e f = record { operands = (both (has_kind kind (as_object K) (5 ∷ [])) (has_kind kind (as_object k) (4 ∷ []))).1 (has K 4 (5 ∷ []) f tt, has k 3 (4 ∷ []) e tt); cells = tt }

  load_fits : (i : ℕ) → i ≤ 190 → InRange kind (LOAD (scratch i))
  load_fits i h = record { operands = tt; cells = omega arith }

  store_fits : (i : ℕ) → i ≤ 190 → InRange kind (STORE (scratch i))
  store_fits i h = record { operands = tt; cells = omega arith }

  match_fits : (i : ℕ) → i ≤ 190 → InRange kind (MATCH (scratch i))
  match_fits i h = record { operands = tt; cells = omega arith }

  load_named_fits : (r : ℕ) → r < 64 → InRange kind (LOAD (named r))
  load_named_fits r h = record { operands = tt; cells = omega arith }

  verify_fits : (v r : ℕ) → T (one_of (4 ∷ 6 ∷ []) (kind v)) → r < 64 → InRange kind (VERIFY v (named r))
  unfolding one_of
  verify_fits v r t h = record { operands = has_either v 3 5 (4 ∷ 6 ∷ []) t tt tt; cells = omega arith }

  cells_fit : (i n : ℕ) → n ≤ 4 → i ≤ 190 → i + n ≤ 191 → T (leb n 4 && leb ((scratch i).0 + n) 256)
  cells_fit i n f h g = (both (leb n 4) (leb ((scratch i).0 + n) 256)).1 (le→leb n 4 f, le→leb (64 + i + n) 256 (omega arith))

  tuple_fits : (t i n : ℕ) → kind t ≡ 10 → n ≤ 4 → i + n ≤ 190 → InRange kind (ANALYZE_TUPLE t (scratch i) n)
  unfolding one_of
  tuple_fits t i n e f h = record {
    operands = (both (has_kind kind (as_object t) (10 ∷ [])) (leb n 4 && leb ((scratch i).0 + n) 256)).1 (has t 9 (10 ∷ []) e tt, cells_fit i n f (omega arith) (omega arith));
    cells = (omega arith, omega arith);
  }

  key_of_fits : InRange kind KEY_OF
  key_of_fits = record { operands = tt; cells = tt }

  -- Figure 5: fewer than 8 words and 2 scratch numbers a row. The key of a matched S
  verifying_takes : (row : ℕ) (key : Key) (r w n : ℕ) (e : Env) → T (public_side kind key) → r < 64 → 6 ≤ w → e.next + 1 ≤ n → n ≤ 191 → Takes kind w n (verifying row key r e)
  unfolding one_of
  verifying_takes row (plain_key v) r w n e t h l m b = final kind row _ (verify_fits v r t h) w n e (omega arith) (omega arith)
  verifying_takes row (op_key k K) r w n e t h l m b =
      let (p, q) = (both (eqb (kind k) 4) (eqb (kind K) 5)).0 t in
      first kind row _ (opposite_fits k K (eqb→eq _ _ p) (eqb→eq _ _ q)) n w n _ e (omega arith) (omega arith) λ e₁ h₁.
      final kind row _ (verify_fits k r (rw (eqb→eq (kind k) 4 p) tt) h) (w - 1) n e₁ (omega arith) h₁
  verifying_takes row (certified_key k a) r w n e t h l m b =
      let (p, q) = (both (eqb (kind k) 4) (eqb (kind a) 3)).0 t in
      first kind row _ (store_fits e.next (omega arith)) n w n _ _ (omega arith) m λ e₁ h₁.
      first kind row _ (encode_fits a 2 (eqb→eq _ _ q) tt) n (w - 1) n _ e₁ (omega arith) h₁ λ e₂ h₂.
      first kind row _ key_of_fits n (w - 1 - 1) n _ e₂ (omega arith) h₂ λ e₃ h₃.
      first kind row _ (decode_fits k 3 (eqb→eq _ _ p) tt) n (w - 1 - 1 - 1) n _ e₃ (omega arith) h₃ λ e₄ h₄.
      first kind row _ (load_fits e.next (omega arith)) n (w - 1 - 1 - 1 - 1) n _ e₄ (omega arith) h₄ λ e₅ h₅.
      final kind row _ (verify_fits k r (rw (eqb→eq (kind k) 4 p) tt) h) (w - 1 - 1 - 1 - 1 - 1) n e₅ (omega arith) h₅

  -- what stands in scratch is compared with what an object variable holds
  compare_takes : (row i v k w n : ℕ) (e : Env) → kind v ≡ suc k → T (one_of any (suc k)) → i ≤ 190 → 2 ≤ w → e.next ≤ n
      → Takes kind w n ((emit row (ENCODE v) then emit row (MATCH (scratch i))) e)
  compare_takes row i v k w n e q t h l m = first kind row _ (encode_fits v k q t) n w n _ e (omega arith) m λ e₁ h₁. final kind row _ (match_fits i h) (w - 1) n e₁ (omega arith) h₁

  mutual
    unfolding size count RightKinds RawsBelow Packed one_of

    takes↓ : (p : Pattern) (w n : ℕ) (e : Env) → RightKinds false kind p → RawsBelow 64 p → Packed p → n ≤ 191 → 8 * size p ≤ w + 1 → e.next + 2 * size p ≤ n + 1 → Takes kind w n (compile↓ p e)
    takes↓ (object row v) w n e k r b m l h =
        let (p, q) = (both (leb 1 (kind v)) (leb (kind v) 9)).0 k in
        let f : T (has_kind kind (as_object v) any) = has_any v ((at_most _ _).0 p) ((at_most _ _).0 q) in
        choice kind (e.objects v) w n _ _
        (λ _. first kind row _ (store_fits e.next (omega arith)) n w n _ _ (omega arith) (omega arith) λ e₁ h₁.
        first kind row _ (record { operands = f; cells = tt }) n (w - 1) n _ e₁ (omega arith) h₁ λ e₂ h₂.
        final kind row _ (match_fits e.next (omega arith)) (w - 1 - 1) n e₂ (omega arith) h₂)
        (final kind row _ (record { operands = f; cells = tt }) w n e (omega arith) (omega arith))
    takes↓ (raw row r) w n e k h b m l d =
        choice kind (e.raws r) w n _ _
        (λ _. final kind row _ (record { operands = tt; cells = omega arith }) w n e (omega arith) (omega arith))
        (final kind row _ (record { operands = tt; cells = omega arith }) w n e (omega arith) (omega arith))
    takes↓ (constant row c x) w n e k r b m l h =
        first kind row _ (store_fits e.next (omega arith)) n w n _ _ (omega arith) (omega arith) λ e₁ h₁.
        first kind row _ (record { operands = has c 0 (1 ∷ []) (eqb→eq _ _ k) tt; cells = b }) n (w - 1) n _ e₁ (omega arith) h₁ λ e₂ h₂.
        compare_takes row e.next c 0 (w - 1 - 1) n e₂ (eqb→eq _ _ k) tt (omega arith) (omega arith) h₂
    takes↓ (opposite row v K) w n e k r b m l h =
        let (p, q) = (both (eqb (kind v) 4) (eqb (kind K) 5)).0 k in
        first kind row _ (store_fits e.next (omega arith)) n w n _ _ (omega arith) (omega arith) λ e₁ h₁.
        first kind row _ (opposite_fits v K (eqb→eq _ _ p) (eqb→eq _ _ q)) n (w - 1) n _ e₁ (omega arith) h₁ λ e₂ h₂.
        compare_takes row e.next v 3 (w - 1 - 1) n e₂ (eqb→eq _ _ p) tt (omega arith) (omega arith) h₂
    takes↓ (key_of row v a) w n e k r b m l h =
        let (p, q) = (both (eqb (kind v) 4) (eqb (kind a) 3)).0 k in
        first kind row _ (decode_fits v 3 (eqb→eq _ _ p) tt) e.next w n _ e (omega arith) (omega arith) λ e₁ h₁.
        first kind row _ (store_fits e₁.next (omega arith)) n (w - 1) n _ _ (omega arith) (omega arith) λ e₂ h₂.
        first kind row _ (encode_fits a 2 (eqb→eq _ _ q) tt) n (w - 1 - 1) n _ e₂ (omega arith) h₂ λ e₃ h₃.
        first kind row _ key_of_fits n (w - 1 - 1 - 1) n _ e₃ (omega arith) h₃ λ e₄ h₄.
        final kind row _ (match_fits e₁.next (omega arith)) (w - 1 - 1 - 1 - 1) n e₄ (omega arith) h₄
    takes↓ (encryption row v (plain_key dk) p) w n e k r b m l h =
        let (q, t) = (both (eqb (kind v) 7) (private_side kind (plain_key dk))).0 k.0 in
        first kind row _ (decode_fits v 6 (eqb→eq _ _ q) tt) e.next w n _ e (omega arith) (omega arith) λ e₁ h₁.
        first kind row _ (record { operands = has_either dk 4 5 (5 ∷ 6 ∷ []) t tt tt; cells = tt }) e.next (w - 1) n _ e₁ (omega arith) h₁ λ e₂ h₂.
        takes↓ p (w - 1 - 1) n e₂ k.1 r b m (omega arith) (omega arith)
    takes↓ (encryption row v (op_key x y) p) w n e k r b m l h = absurd ((both (eqb (kind v) 7) false).0 k.0).1
    takes↓ (encryption row v (certified_key x y) p) w n e k r b m l h = absurd ((both (eqb (kind v) 7) false).0 k.0).1
    takes↓ (signature row s key r) w n e k d b m l h =
        let (q, t) = (both (eqb (kind s) 8) (public_side kind key)).0 k in
        first kind row _ (decode_fits s 7 (eqb→eq _ _ q) tt) e.next w n _ e (omega arith) (omega arith) λ e₁ h₁.
        verifying_takes row key r (w - 1) n e₁ t d (omega arith) (omega arith) m
    takes↓ (hash row v r) w n e k d b m l h =
        first kind row _ (decode_fits v 8 (eqb→eq _ _ k) tt) e.next w n _ e (omega arith) (omega arith) λ e₁ h₁.
        first kind row _ (store_fits e₁.next (omega arith)) n (w - 1) n _ _ (omega arith) (omega arith) λ e₂ h₂.
        first kind row _ (load_named_fits r d) n (w - 1 - 1) n _ e₂ (omega arith) h₂ λ e₃ h₃.
        first kind row _ (record { operands = has v 8 (9 ∷ []) (eqb→eq _ _ k) tt; cells = tt }) n (w - 1 - 1 - 1) n _ e₃ (omega arith) h₃ λ e₄ h₄.
        final kind row _ (match_fits e₁.next (omega arith)) (w - 1 - 1 - 1 - 1) n e₄ (omega arith) h₄
    takes↓ (tuple row t ps) w n e k r b m l h =
        let c = count_sizes ps in
        let f = b.0 in
        first kind row _ (decode_fits t 9 (eqb→eq _ _ k.0) tt) e.next w n _ e (omega arith) (omega arith) λ e₁ h₁.
        first kind row _ (tuple_fits t e₁.next (count ps) (eqb→eq _ _ k.0) f (omega arith)) (e.next + count ps) (w - 1) n _ _ (omega arith) (omega arith) λ e₂ h₂.
        takes↓parts ps row e₁.next (w - 1 - 1) n e₂ k.1 r b.1 m (omega arith) (omega arith) (omega arith)
    takes↓ (let_in row r p₁ p₂) w n e k d b m l h =
        let s₁ = size_positive p₁ in
        let s₂ = size_positive p₂ in
        choice kind (e.raws r) w n _ _ (λ _. refused kind w n written)
        (follows kind (8 * size p₂ - 1) (e.next + 2 * size p₂ - 1) w n _ _ (omega arith) (takes↓ p₂ _ _ e k.1 d.2 b.1 (omega arith) (omega arith) (omega arith)) λ e₁ h₁.
        first kind row _ (load_named_fits r d.0) (e.next + 2 * size p₂ - 1) _ n _ e₁ (omega arith) h₁ λ e₂ h₂.
        takes↓ p₁ _ n e₂ k.0 d.1 b.0 m (omega arith) (omega arith))

    -- a part adds its LOAD, and its scratch number is taken already
    takes↓parts : (ps : Parts) (row i w n : ℕ) (e : Env) → RightParts false kind ps → PartsBelow 64 ps → PackedParts ps
        → n ≤ 191 → i + count ps ≤ 191 → 8 * sizes ps ≤ w → e.next + 2 * sizes ps ≤ n + count ps
        → Takes kind w n (compile↓parts ps row i e)
    takes↓parts end row i w n e k r b m g l h = nothing kind w n e (omega arith)
    takes↓parts (part p ps) row i w n e k r b m g l h =
        let s = size_positive p in
        let c = count_sizes ps in
        first kind row _ (load_fits i (omega arith)) e.next w n _ e (omega arith) (omega arith) λ e₁ h₁.
        follows kind (8 * size p - 1) (e.next + 2 * size p - 1) (w - 1) n _ _ (omega arith) (takes↓ p _ _ e₁ k.0 r.0 b.0 (omega arith) (omega arith) (omega arith)) λ e₂ h₂.
        takes↓parts ps row (suc i) (w - 1 - (8 * size p - 1)) n e₂ k.1 r.1 b.1 m (omega arith) (omega arith) (omega arith)

  -- Figure 6. A variable that is set, or gets its CREATE
  creating_takes : (row v w n : ℕ) (e : Env) → 1 ≤ w → e.next ≤ n → Takes kind w n (creating kind row v e)
  unfolding creatable one_of
  creating_takes row v w n e l h =
      choice kind (e.objects v) w n _ _ (λ _. nothing kind w n e h)
      (choice kind (creatable (kind v)) w n _ _ (λ c. final kind row _ (record { operands = created v c; cells = tt }) w n e l h) (refused kind w n read))
    where
      created : (v : ℕ) → T (one_of (2 ∷ 5 ∷ 6 ∷ []) (kind v)) → T (has_kind kind (as_object v) (2 ∷ 5 ∷ 6 ∷ []))
      created v c = (both (ltb v 64) (one_of (2 ∷ 5 ∷ 6 ∷ []) (kind v))).1 (inside v (λ z. rw z at c), c)

  key_takes : (row : ℕ) (key : Key) (w n : ℕ) (e : Env) → (k : T (public_side kind key) ⊎ T (private_side kind key)) → 3 ≤ w → e.next ≤ n → Takes kind w n (compile↑K kind row key e)
  unfolding one_of
  key_takes row (plain_key v) w n e k l h = creating_takes row v w n e (omega arith) h
  key_takes row (op_key x K) w n e (inr t) l h = absurd t
  key_takes row (op_key x K) w n e (inl t) l h =
      let (p, q) = (both (eqb (kind x) 4) (eqb (kind K) 5)).0 t in
      follows kind 1 n w n _ _ (omega arith) (creating_takes row K 1 n e (omega arith) h) λ e₁ h₁.
      final kind row _ (opposite_fits x K (eqb→eq _ _ p) (eqb→eq _ _ q)) (w - 1) n e₁ (omega arith) h₁
  key_takes row (certified_key x a) w n e (inr t) l h = absurd t
  key_takes row (certified_key x a) w n e (inl t) l h =
      let (p, q) = (both (eqb (kind x) 4) (eqb (kind a) 3)).0 t in
      first kind row _ (encode_fits a 2 (eqb→eq _ _ q) tt) n w n _ e (omega arith) h λ e₁ h₁.
      first kind row _ key_of_fits n (w - 1) n _ e₁ (omega arith) h₁ λ e₂ h₂.
      final kind row _ (decode_fits x 3 (eqb→eq _ _ p) tt) (w - 1 - 1) n e₂ (omega arith) h₂

  -- the variable of a key has a kind that seals, or one that signs
  seals : (key : Key) → T (public_side kind key) → T (has_kind kind (as_object (key_var key)) (4 ∷ 6 ∷ []))
  unfolding one_of
  seals (plain_key v) t = has_either v 3 5 (4 ∷ 6 ∷ []) t tt tt
  seals (op_key k K) t = has k 3 (4 ∷ 6 ∷ []) (eqb→eq _ _ ((both (eqb (kind k) 4) (eqb (kind K) 5)).0 t).0) tt
  seals (certified_key k a) t = has k 3 (4 ∷ 6 ∷ []) (eqb→eq _ _ ((both (eqb (kind k) 4) (eqb (kind a) 3)).0 t).0) tt

  signs : (key : Key) → T (private_side kind key) → T (has_kind kind (as_object (key_var key)) (5 ∷ 6 ∷ []))
  unfolding one_of
  signs (plain_key v) t = has_either v 4 5 (5 ∷ 6 ∷ []) t tt tt
  signs (op_key k K) t = absurd t
  signs (certified_key k a) t = absurd t

  mutual
    unfolding size count RightKinds RawsBelow Packed one_of

    takes↑ : (p : Pattern) (w n : ℕ) (e : Env) → RightKinds true kind p → RawsBelow 64 p → Packed p → n ≤ 191 → 8 * size p ≤ w + 1 → e.next + 2 * size p ≤ n + 1 → Takes kind w n (compile↑ kind p e)
    takes↑ (object row v) w n e k r b m l h =
        let (p, q) = (both (leb 1 (kind v)) (leb (kind v) 9)).0 k in
        follows kind 1 n w n _ _ (omega arith) (creating_takes row v 1 n e (omega arith) (omega arith)) λ e₁ h₁.
        final kind row _ (record { operands = has_any v ((at_most _ _).0 p) ((at_most _ _).0 q); cells = tt }) (w - 1) n e₁ (omega arith) h₁
    takes↑ (raw row r) w n e k d b m l h = final kind row _ (load_named_fits r d) w n e (omega arith) (omega arith)
    takes↑ (constant row c x) w n e k r b m l h =
        first kind row _ (record { operands = has c 0 (1 ∷ []) (eqb→eq _ _ k) tt; cells = b }) n w n _ e (omega arith) (omega arith) λ e₁ h₁.
        final kind row _ (encode_fits c 0 (eqb→eq _ _ k) tt) (w - 1) n e₁ (omega arith) h₁
    takes↑ (opposite row v K) w n e k r b m l h =
        follows kind 3 n w n _ _ (omega arith) (key_takes row (op_key v K) 3 n e (inl k) (omega arith) (omega arith)) λ e₁ h₁.
        final kind row _ (encode_fits v 3 (eqb→eq _ _ ((both (eqb (kind v) 4) (eqb (kind K) 5)).0 k).0) tt) (w - 3) n e₁ (omega arith) h₁
    takes↑ (key_of row v a) w n e k r b m l h = key_takes row (certified_key v a) w n e (inl k) (omega arith) (omega arith)
    takes↑ (encryption row v key p) w n e k r b m l h =
        let s = size_positive p in
        let (q, t) = (both (eqb (kind v) 7) (public_side kind key)).0 k.0 in
        follows kind 3 e.next w n _ _ (omega arith) (key_takes row key 3 e.next e (inl t) (omega arith) (omega arith)) λ e₁ h₁.
        follows kind (8 * size p - 1) n (w - 3) n _ _ (omega arith) (takes↑ p _ n e₁ k.1 r b m (omega arith) (omega arith)) λ e₂ h₂.
        first kind row _ (record { operands = seals key t; cells = tt }) n (w - 3 - (8 * size p - 1)) n _ e₂ (omega arith) h₂ λ e₃ h₃.
        final kind row _ (decode_fits v 6 (eqb→eq _ _ q) tt) (w - 3 - (8 * size p - 1) - 1) n e₃ (omega arith) h₃
    takes↑ (signature row s key r) w n e k d b m l h =
        let (q, t) = (both (eqb (kind s) 8) (private_side kind key)).0 k in
        follows kind 3 n w n _ _ (omega arith) (key_takes row key 3 n e (inr t) (omega arith) (omega arith)) λ e₁ h₁.
        first kind row _ (load_named_fits r d) n (w - 3) n _ e₁ (omega arith) h₁ λ e₂ h₂.
        first kind row _ (record { operands = signs key t; cells = tt }) n (w - 3 - 1) n _ e₂ (omega arith) h₂ λ e₃ h₃.
        final kind row _ (decode_fits s 7 (eqb→eq _ _ q) tt) (w - 3 - 1 - 1) n e₃ (omega arith) h₃
    takes↑ (hash row v r) w n e k d b m l h =
        first kind row _ (load_named_fits r d) n w n _ e (omega arith) (omega arith) λ e₁ h₁.
        first kind row _ (record { operands = has v 8 (9 ∷ []) (eqb→eq _ _ k) tt; cells = tt }) n (w - 1) n _ e₁ (omega arith) h₁ λ e₂ h₂.
        final kind row _ (decode_fits v 8 (eqb→eq _ _ k) tt) (w - 1 - 1) n e₂ (omega arith) h₂
    takes↑ (tuple row t ps) w n e k r b m l h =
        let c = count_sizes ps in
        let f = b.0 in
        let g = tuple_fits t e.next (count ps) (eqb→eq _ _ k.0) f (omega arith) in
        follows kind (8 * sizes ps) n w n _ _ (omega arith) (takes↑parts ps row e.next (8 * sizes ps) n _ k.1 r b.1 m (omega arith) (omega arith) (omega arith)) λ e₁ h₁.
        first kind row _ (record { operands = g.operands; cells = g.cells }) n (w - 8 * sizes ps) n _ e₁ (omega arith) h₁ λ e₂ h₂.
        final kind row _ (encode_fits t 9 (eqb→eq _ _ k.0) tt) (w - 8 * sizes ps - 1) n e₂ (omega arith) h₂
    takes↑ (let_in row r p₁ p₂) w n e k d b m l h =
        let s₁ = size_positive p₁ in
        let s₂ = size_positive p₂ in
        let g = d.0 in
        follows kind (8 * size p₁ - 1) (e.next + 2 * size p₁ - 1) w n _ _ (omega arith) (takes↑ p₁ _ _ e k.0 d.1 b.0 (omega arith) (omega arith) (omega arith)) λ e₁ h₁.
        first kind row _ (record { operands = tt; cells = omega arith }) (e.next + 2 * size p₁ - 1) _ n _ e₁ (omega arith) h₁ λ e₂ h₂.
        takes↑ p₂ _ n e₂ k.1 d.2 b.1 m (omega arith) (omega arith)

    -- a part adds its STORE, and its scratch number is taken already
    takes↑parts : (ps : Parts) (row i w n : ℕ) (e : Env) → RightParts true kind ps → PartsBelow 64 ps → PackedParts ps
        → n ≤ 191 → i + count ps ≤ 191 → 8 * sizes ps ≤ w → e.next + 2 * sizes ps ≤ n + count ps
        → Takes kind w n (compile↑parts kind ps row i e)
    takes↑parts end row i w n e k r b m g l h = nothing kind w n e (omega arith)
    takes↑parts (part p ps) row i w n e k r b m g l h =
        let s = size_positive p in
        let c = count_sizes ps in
        follows kind (8 * size p - 1) (e.next + 2 * size p - 1) w n _ _ (omega arith) (takes↑ p _ _ e k.0 r.0 b.0 (omega arith) (omega arith) (omega arith)) λ e₁ h₁.
        first kind row _ (store_fits i (omega arith)) (e.next + 2 * size p - 1) _ n _ e₁ (omega arith) h₁ λ e₂ h₂.
        takes↑parts ps row (suc i) (w - (8 * size p - 1) - 1) n e₂ k.1 r.1 b.1 m (omega arith) (omega arith) (omega arith)

  within : (E : Emitted) (c : List Line) (e : Env) → Takes kind 767 191 E → E ≡ ok c e → InLimits kind c e
  unfolding TakesT
  within E c e t p = let (w, n, f) = (rw p at t).taken in record { words = w; scratch_numbers = n; lines = f }

  -- with at most 96 rows
  pub matching_in_limits : (p : Pattern) (e e' : Env) (c : List Line) → RightKinds false kind p → RawsBelow 64 p → Packed p → size p ≤ 96 → e.next ≡ 0 → compile↓ p e ≡ ok c e' → InLimits kind c e'
  matching_in_limits p e e' c k r b s z q = within _ c e' (takes↓ p 767 191 e k r b (omega arith) (omega arith) (omega arith)) q

  pub creating_in_limits : (p : Pattern) (e e' : Env) (c : List Line) → RightKinds true kind p → RawsBelow 64 p → Packed p → size p ≤ 96 → e.next ≡ 0
      → compile↑ kind p e ≡ ok c e' → InLimits kind c e'
  creating_in_limits p e e' c k r b s z q = within _ c e' (takes↑ p 767 191 e k r b (omega arith) (omega arith) (omega arith)) q

  -- and where it refuses, that is with 6 or 7
  refusal : (E : Emitted) (answer : Compiled) → Takes kind 767 191 E → E ≡ refuse answer → Refusal answer
  unfolding TakesT
  refusal E answer t p = (rw p at t).taken

  pub matching_refuses : (p : Pattern) (e : Env) (answer : Compiled) → RightKinds false kind p → RawsBelow 64 p → Packed p → size p ≤ 96 → e.next ≡ 0 → compile↓ p e ≡ refuse answer → Refusal answer
  matching_refuses p e answer k r b s z q = refusal _ answer (takes↓ p 767 191 e k r b (omega arith) (omega arith) (omega arith)) q

  pub creating_refuses : (p : Pattern) (e : Env) (answer : Compiled) → RightKinds true kind p → RawsBelow 64 p → Packed p → size p ≤ 96 → e.next ≡ 0
      → compile↑ kind p e ≡ refuse answer → Refusal answer
  creating_refuses p e answer k r b s z q = refusal _ answer (takes↑ p 767 191 e k r b (omega arith) (omega arith) (omega arith)) q
