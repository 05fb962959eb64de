-- The rules of a match as stages: a message decoded, a term asked for, a key, and what follows.
use Prim.Native.Nat.{ℕ}
use mathlib.Core.Path.{◌≡◌, refl, sym, ap, ◌∙◌, fun_ext}
use Rattle.std.specs.Prelude.{Option, None, Some}
use native.Mathlib.Decide.{ℕ_discrete}
use native.Mathlib.Omega.{arith}
use Rattle.patterns.specs.Pattern.{Key, plain_key, op_key, certified_key}
use Rattle.stores.specs.Cells.{unset, held}
use Rattle.theory.specs.Outcome.{Outcome, done, bind, at, need, free, Answer, got, not, full}
use Rattle.theory.specs.World.{Op, op, key_of, decrypt, is}
use Rattle.theory.specs.RowModel.{Table, row_world}
use Rattle.theory.specs.Machine.{Stores, set_object, set_memory}
use Rattle.theory.specs.Rules.{made, makes, decodes, equals, match_key}
use Rattle.theory.proofs.Simulation.{bind_assoc}
use Rattle.world.specs.Operations.{finding}
use Rattle.machine.proofs.StateLaws.{held_unset, held_set}
use Rattle.walks.specs.Walks.{keeps}
use Rattle.leaf_matching.specs.Stages.{asked, opposed, keyed, verifies}

-- a message in hand is the one that is held
none_some : {A : Type 0} {m : ℕ} → None ≡ Some m → A
none_some e = let z : ◌≡◌ {A = ℕ} 0 1 = cc in absurd (omega arith)

held_some : (m m' : ℕ) → held m ≡ Some m' → m ≡ m'
held_some m m' e = by (ℕ_discrete m unset)
  where
    by : Dec (m ≡ unset) → m ≡ m'
    by (yes h) = none_some (sym (held_unset m h) ∙ e)
    by (no n) = let same : Some m ≡ Some m' = sym (held_set m n) ∙ e in cc

module _ {D : Type 0} (row : ℕ) where
  -- v.decode(m), and what follows
  decoded_by : (cell a : Option ℕ) (test : ℕ → Answer (Unit {0})) (g : ℕ → Stores row_world) (f : ℕ → Stores row_world → Outcome D) (h : ℕ × Stores row_world → Outcome D)
      → ((m : ℕ) → a ≡ Some m → f m (g m) ≡ h (m, g m))
      → bind (free row cell) (λ _. bind (need row a) λ m. bind (at row (test m)) λ _. f m (g m))
      ≡ bind (bind (free row cell) λ _. bind (need row a) λ m. bind (at row (test m)) λ _. done (m, g m)) h
  decoded_by (Some c) a test g f h same = refl
  decoded_by None None test g f h same = refl
  decoded_by None (Some m) test g f h same = by (test m)
    where
      by : (t : Answer (Unit {0})) → bind (at row t) (λ _. f m (g m)) ≡ bind (bind (at row t) λ _. done (m, g m)) h
      by (got u) = same m refl
      by (not why) = refl
      by full = refl

  -- a term made of another, and what follows
  asked_by : (cell : Option ℕ) (o : ℕ → Answer (ℕ × Table)) (g : ℕ × Table → ℕ × Stores row_world) (h : ℕ × Stores row_world → Outcome D)
      → bind (need row cell) (λ a. bind (at row (o a)) λ r. h (g r)) ≡ bind (bind (need row cell) λ a. bind (at row (o a)) λ r. done (g r)) h
  asked_by None o g h = refl
  asked_by (Some a) o g h = by (o a)
    where
      by : (t : Answer (ℕ × Table)) → bind (at row t) (λ r. h (g r)) ≡ bind (bind (at row t) λ r. done (g r)) h
      by (got r) = refl
      by (not why) = refl
      by full = refl

  made_by : (cell : Option ℕ) (t : Answer (ℕ × Table)) (g : ℕ × Table → ℕ × Stores row_world) (h : ℕ × Stores row_world → Outcome D)
      → bind (free row cell) (λ _. bind (at row t) λ r. h (g r)) ≡ bind (bind (free row cell) λ _. bind (at row t) λ r. done (g r)) h
  made_by (Some c) t g h = refl
  made_by None (got r) g h = refl
  made_by None (not why) g h = refl
  made_by None full g h = refl

abbrev Decoded : (ℕ → ℕ) → ℕ → ℕ → Option ℕ → Stores row_world → Outcome (ℕ × Stores row_world)
Decoded kind row v a n = decodes row_world kind row v a n (made row_world kind)

module _ {D : Type 0} (kind : ℕ → ℕ) (row v : ℕ) where
  pub decodes_then : (a : Option ℕ) (n : Stores row_world) (f : ℕ → Stores row_world → Outcome D) → decodes row_world kind row v a n f ≡ bind (Decoded kind row v a n) (λ r. f r.0 r.1)
  decodes_then a n f = decoded_by row (n.σ v) a (λ m. row_world.test (is (kind v) m) n.memory) (λ m. set_object row_world n v m) f (λ r. f r.0 r.1) (λ m e. refl)

  pub decodes_held : (m : ℕ) (n : Stores row_world) (f : ℕ → Stores row_world → Outcome D) → decodes row_world kind row v (held m) n f ≡ bind (Decoded kind row v (held m) n) (λ r. f m r.1)
  decodes_held m n f =
      decoded_by row (n.σ v) (held m) (λ m. row_world.test (is (kind v) m) n.memory) (λ m. set_object row_world n v m) f (λ r. f m r.1)
      (λ m' e. ap (λ (k : ℕ). f k (set_object row_world n v m')) (sym (held_some m m' e)))

  pub makes_then : (o : Op ℕ) (n : Stores row_world) (f : ℕ → Stores row_world → Outcome D) → makes row_world kind row v o n f ≡ bind (makes row_world kind row v o n (made row_world kind))
      (λ r. f r.0 r.1)
  makes_then o n f =
      made_by row (n.σ v) (row_world.apply o n.memory) (λ r. (r.0, set_object row_world (set_memory row_world n r.1) v r.0)) (λ r. f r.0 r.1)

module _ (kind : ℕ → ℕ) (row : ℕ) where
  -- what is decoded, then asked for, is compared
  pub compared_stages : (v : ℕ) (cell : Stores row_world → Option ℕ) (o : ℕ → Op ℕ) (m : ℕ) (n : Stores row_world)
      → decodes row_world kind row v (held m) n (λ m n. bind (need row (cell n)) λ a. bind (at row (row_world.apply (o a) n.memory)) λ r.
      equals row_world kind row r.0 m (set_memory row_world n r.1))
      ≡ bind (bind (Decoded kind row v (held m) n) (λ d. asked row cell o d.1)) (λ q. equals row_world kind row q.0 m q.1)
  compared_stages v cell o m n =
      decodes_held kind row v m n
      (λ m n. bind (need row (cell n)) λ a. bind (at row (row_world.apply (o a) n.memory)) λ r. equals row_world kind row r.0 m (set_memory row_world n r.1))
      ∙ ap (bind (Decoded kind row v (held m) n))
      (fun_ext λ d. asked_by row (cell d.1) (λ a. row_world.apply (o a) d.1.memory) (λ r. (r.0, set_memory row_world d.1 r.1)) (λ q. equals row_world kind row q.0 m q.1))
      ∙ sym (bind_assoc (Decoded kind row v (held m) n) (λ d. asked row cell o d.1) (λ q. equals row_world kind row q.0 m q.1))

  -- what is found or made, and kept, is compared
  pub kept_stages : (v word m : ℕ) (n : Stores row_world)
      → bind (at row (finding n.memory word)) (λ r. equals row_world kind row r.0 m (set_object row_world (set_memory row_world n r.1) v r.0))
      ≡ bind (keeps row v word n) (λ q. equals row_world kind row q.0 m q.1)
  kept_stages v word m n =
      sym (bind_assoc (at row (finding n.memory word)) (λ r. done (r.0, set_object row_world (set_memory row_world n r.1) v r.0)) (λ q. equals row_world kind row q.0 m q.1))

  -- what is decoded, then opened, goes on
  pub opened_stages : {D : Type 0} (v key : ℕ) (a : Option ℕ) (n : Stores row_world) (f : ℕ → Stores row_world → Outcome D)
      → decodes row_world kind row v a n (λ m n. bind (need row (n.σ key)) λ k. bind (at row (row_world.apply (decrypt k m) n.memory)) λ r. f r.0 (set_memory row_world n r.1))
      ≡ bind (bind (Decoded kind row v a n) (λ d. asked row (λ n. n.σ key) (λ k. decrypt k d.0) d.1)) (λ q. f q.0 q.1)
  opened_stages v key a n f =
      decodes_then kind row v a n (λ m n. bind (need row (n.σ key)) λ k. bind (at row (row_world.apply (decrypt k m) n.memory)) λ r. f r.0 (set_memory row_world n r.1))
      ∙ ap (bind (Decoded kind row v a n))
      (fun_ext λ d. asked_by row (d.1.σ key) (λ k. row_world.apply (decrypt k d.0) d.1.memory) (λ r. (r.0, set_memory row_world d.1 r.1)) (λ q. f q.0 q.1))
      ∙ sym (bind_assoc (Decoded kind row v a n) (λ d. asked row (λ n. n.σ key) (λ k. decrypt k d.0) d.1) (λ q. f q.0 q.1))

  -- the opposite of a key, and what follows
  pub opposed_then : {D : Type 0} (k K : ℕ) (n : Stores row_world) (f : ℕ → Stores row_world → Outcome D)
      → bind (need row (n.σ K)) (λ a. makes row_world kind row k (op a) n f) ≡ bind (opposed kind row k K n) (λ r. f r.0 r.1)
  opposed_then k K n f =
      ap (bind (need row (n.σ K))) (fun_ext λ a. makes_then kind row k (op a) n f)
      ∙ sym (bind_assoc (need row (n.σ K)) (λ a. makes row_world kind row k (op a) n (made row_world kind)) (λ r. f r.0 r.1))

  -- the key of a matched S, and what follows
  pub keyed_then : (key : Key) (n : Stores row_world) (f : ℕ → Stores row_world → Outcome (Stores row_world)) → match_key row_world kind row key n f ≡ bind (keyed kind row key n) (λ r. f
      r.0 r.1)
  keyed_then (plain_key v) n f = sym (bind_assoc (need row (n.σ v)) (λ k. done (k, n)) (λ r. f r.0 r.1))
  keyed_then (op_key k K) n f = opposed_then k K n f
  keyed_then (certified_key k a) n f =
      ap (bind (need row (n.σ a)))
      (fun_ext λ x. ap (bind (at row (row_world.apply (key_of x) n.memory))) (fun_ext λ r. decodes_then kind row k (Some r.0) (set_memory row_world n r.1) f)
      ∙ sym (bind_assoc (at row (row_world.apply (key_of x) n.memory)) (λ r. Decoded kind row k (Some r.0) (set_memory row_world n r.1)) (λ r. f r.0 r.1)))
      ∙ sym (bind_assoc (need row (n.σ a)) (λ x. bind (at row (row_world.apply (key_of x) n.memory)) λ r. Decoded kind row k (Some r.0) (set_memory row_world n r.1)) (λ r. f
      r.0 r.1))

  -- what is decoded, with the key that follows, is verified
  pub verified_stages : (v : ℕ) (key : Key) (r m : ℕ) (n : Stores row_world)
      → decodes row_world kind row v (held m) n (λ m n. match_key row_world kind row key n (λ k n. verifies row r m (k, n)))
      ≡ bind (bind (Decoded kind row v (held m) n) (λ d. keyed kind row key d.1)) (verifies row r m)
  verified_stages v key r m n =
      decodes_held kind row v m n (λ m n. match_key row_world kind row key n (λ k n. verifies row r m (k, n)))
      ∙ ap (bind (Decoded kind row v (held m) n)) (fun_ext λ d. keyed_then key d.1 (λ k n. verifies row r m (k, n)))
      ∙ sym (bind_assoc (Decoded kind row v (held m) n) (λ d. keyed kind row key d.1) (verifies row r m))
