-- Figure 3, a constructor a rule, over abstract terms. What E, S, H, tuples and lets write is looked at when it is written.
use Rattle.std.specs.Prelude.{ℕ, ◌≡◌, true, List, [], ◌∷◌}
use Rattle.std.specs.Prelude.{Some}
use Rattle.patterns.specs.Pattern.{Key, plain_key, op_key, certified_key, Pattern, object, raw, constant, opposite, key_of, encryption, signature, hash, tuple, let_in, Parts, end, part}
use Rattle.theory.specs.Outcome.{got}
use Rattle.theory.specs.World.{creatable}
use Rattle.theory.specs.World as Voc
use Rattle.theory.specs.Machine as Machine
use Rattle.theory.specs.TermModel.{Term, term_world}
use Rattle.theory.specs.Figure2.{TermStores, set_object, set_raw, ◌∉◌, Gives, Decodes}

module _ (kind : ℕ → ℕ) where
  -- σ + {cr ↦ cr.create()}, which takes a name
  pub data CreatesNew : TermStores → ℕ → Term → TermStores → Type 0 where
    new : {n n' : TermStores} {v : ℕ} {o : Term} {x : term_world.Mem}
        → v ∉ n.σ → creatable (kind v) ≡ true → term_world.apply (Voc.create (kind v)) n.memory ≡ got (o, x)
        → set_object (Machine.set_memory term_world n x) v o ≡ n'
        → CreatesNew n v o n'

  -- kp, σ ↗K o, σ'
  pub data KeyCreates : TermStores → Key → Term → TermStores → Type 0 where
    key_set : {n : TermStores} {v : ℕ} {o : Term}
        → n.σ v ≡ Some o
        → KeyCreates n (plain_key v) o n
    key_new : {n n' : TermStores} {v : ℕ} {o : Term}
        → CreatesNew n v o n'
        → KeyCreates n (plain_key v) o n'
    key_op : {n n₁ n' : TermStores} {k K : ℕ} {a o : Term}
        → KeyCreates n (plain_key K) a n₁
        → k ∉ n.σ → Gives n₁ (Voc.op a) o
        → set_object n₁ k o ≡ n'
        → KeyCreates n (op_key k K) o n'
    key_key_of : {n n' : TermStores} {k a : ℕ} {b o : Term}
        → k ∉ n.σ → n.σ a ≡ Some b → Gives n (Voc.key_of b) o → Decodes kind n k o
        → set_object n k o ≡ n'
        → KeyCreates n (certified_key k a) o n'

  -- p, σ, ρ ↗ m, σ', ρ'
  mutual
    pub data Creates : TermStores → Pattern → Term → TermStores → Type 0 where
      object_set : {n : TermStores} {row v : ℕ} {m : Term}
          → n.σ v ≡ Some m
          → Creates n (object row v) m n
      object_new : {n n' : TermStores} {row v : ℕ} {m : Term}
          → CreatesNew n v m n'
          → Creates n (object row v) m n'
      raw_set : {n : TermStores} {row r : ℕ} {m : Term}
          → n.ρ r ≡ Some m
          → Creates n (raw row r) m n
      constant_rule : {n n' : TermStores} {row c b : ℕ} {m : Term}
          → c ∉ n.σ → Gives n (Voc.byte b) m
          → set_object n c m ≡ n'
          → Creates n (constant row c b) m n'
      op_rule : {n n' : TermStores} {row k K : ℕ} {a m : Term}
          → k ∉ n.σ → n.σ K ≡ Some a → Gives n (Voc.op a) m
          → set_object n k m ≡ n'
          → Creates n (opposite row k K) m n'
      op_new : {n n₁ n' : TermStores} {row k K : ℕ} {a m : Term}
          → k ∉ n.σ → CreatesNew n K a n₁
          → Creates n₁ (opposite row k K) m n'
          → Creates n (opposite row k K) m n'
      key_of_rule : {n n' : TermStores} {row k a : ℕ} {b m : Term}
          → k ∉ n.σ → n.σ a ≡ Some b → Gives n (Voc.key_of b) m → Decodes kind n k m
          → set_object n k m ≡ n'
          → Creates n (key_of row k a) m n'
      encryption_rule : {n n₁ n₂ n' : TermStores} {row e : ℕ} {key : Key} {p : Pattern} {o b m : Term}
          → KeyCreates n key o n₁ → Creates n₁ p b n₂
          → e ∉ n₂.σ → Gives n₂ (Voc.encrypt o b) m → Decodes kind n₂ e m
          → set_object n₂ e m ≡ n'
          → Creates n (encryption row e key p) m n'
      signature_rule : {n n₁ n' : TermStores} {row s r : ℕ} {key : Key} {o b m : Term}
          → KeyCreates n key o n₁
          → s ∉ n₁.σ → n.ρ r ≡ Some b → Gives n₁ (Voc.sign o b) m → Decodes kind n₁ s m
          → set_object n₁ s m ≡ n'
          → Creates n (signature row s key r) m n'
      hash_rule : {n n' : TermStores} {row h r : ℕ} {b m : Term}
          → h ∉ n.σ → n.ρ r ≡ Some b → Gives n (Voc.hash b) m → Decodes kind n h m
          → set_object n h m ≡ n'
          → Creates n (hash row h r) m n'
      tuple_rule : {n n₁ n' : TermStores} {row t : ℕ} {ps : Parts} {ms : List Term} {m : Term}
          → CreatesParts n ps ms n₁
          → t ∉ n₁.σ → Gives n₁ (Voc.tuple ms) m
          → set_object n₁ t m ≡ n'
          → Creates n (tuple row t ps) m n'
      let_rule : {n n₁ n' : TermStores} {row r : ℕ} {p₁ p₂ : Pattern} {b m : Term}
          → Creates n p₁ b n₁ → r ∉ n₁.ρ → Creates (set_raw n₁ r b) p₂ m n'
          → Creates n (let_in row r p₁ p₂) m n'

    pub data CreatesParts : TermStores → Parts → List Term → TermStores → Type 0 where
      no_more : {n : TermStores} → CreatesParts n end [] n
      one_more : {n n₁ n' : TermStores} {p : Pattern} {ps : Parts} {m : Term} {ms : List Term}
          → Creates n p m n₁ → CreatesParts n₁ ps ms n'
          → CreatesParts n (part p ps) (m ∷ ms) n'
