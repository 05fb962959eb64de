-- Figure 2, a constructor a rule, over abstract terms. Definedness is part of each condition.
use Rattle.std.specs.Prelude.{ℕ, ◌≡◌, List, [], ◌∷◌}
use Rattle.std.specs.Prelude.{Option, None, Some}
use Rattle.patterns.specs.Pattern.{Key, plain_key, op_key, certified_key, Pattern, object, raw, constant, opposite, key_of, encryption, signature, hash, tuple, let_in, Parts, end, part}
use Rattle.theory.specs.Outcome.{got}
use Rattle.theory.specs.World.{Op, Test}
use Rattle.theory.specs.World as Voc
use Rattle.theory.specs.Machine.{Stores}
use Rattle.theory.specs.Machine as Machine
use Rattle.theory.specs.TermModel.{Term, tupled, collected, term_world}

-- σ and ρ over terms, with the counter and ν
abbrev pub TermStores : Type 0
TermStores = Stores term_world

-- σ + {v ↦ m} and ρ + {r ↦ m}
abbrev pub set_object : TermStores → ℕ → Term → TermStores
set_object n v m = Machine.set_object term_world n v m

abbrev pub set_raw : TermStores → ℕ → Term → TermStores
set_raw n r m = Machine.set_raw term_world n r m

-- v ∉ σ
infix 40 ◌∉◌
abbrev pub ◌∉◌ : ℕ → (ℕ → Option Term) → Type 0
v ∉ store = store v ≡ None

-- what an operation gives, and what a test says
abbrev pub Gives : TermStores → Op Term → Term → Type 0
Gives n o m = term_world.apply o n.memory ≡ got (m, n.memory)

abbrev pub Holds : TermStores → Test Term → Type 0
Holds n t = term_world.test t n.memory ≡ got tt

module _ (kind : ℕ → ℕ) where
  -- v.decode(m) is defined
  abbrev pub Decodes : TermStores → ℕ → Term → Type 0
  Decodes n v m = Holds n (Voc.is (kind v) m)

  -- kp, σ ↘K o, σ'
  pub data KeyMatches : TermStores → Key → Term → TermStores → Type 0 where
    key_variable : {n : TermStores} {v : ℕ} {o : Term}
        → n.σ v ≡ Some o
        → KeyMatches n (plain_key v) o n
    key_op : {n n' : TermStores} {k K : ℕ} {a o : Term}
        → k ∉ n.σ → n.σ K ≡ Some a → Gives n (Voc.op a) o
        → set_object n k o ≡ n'
        → KeyMatches n (op_key k K) o n'
    key_key_of : {n n' : TermStores} {k a : ℕ} {b o : Term}
        → k ∉ n.σ → n.σ a ≡ Some b → Gives n (Voc.key_of b) o → Decodes n k o
        → set_object n k o ≡ n'
        → KeyMatches n (certified_key k a) o n'

  -- σ, ρ, p, m ↘ σ', ρ'
  mutual
    pub data Matches : TermStores → Pattern → Term → TermStores → Type 0 where
      object_set : {n : TermStores} {row v : ℕ} {m : Term}
          → n.σ v ≡ Some m
          → Matches n (object row v) m n
      raw_set : {n : TermStores} {row r : ℕ} {m : Term}
          → n.ρ r ≡ Some m
          → Matches n (raw row r) m n
      object_new : {n n' : TermStores} {row v : ℕ} {m : Term}
          → v ∉ n.σ → Decodes n v m
          → set_object n v m ≡ n'
          → Matches n (object row v) m n'
      raw_new : {n n' : TermStores} {row r : ℕ} {m : Term}
          → r ∉ n.ρ
          → set_raw n r m ≡ n'
          → Matches n (raw row r) m n'
      constant_rule : {n n' : TermStores} {row c b : ℕ} {m : Term}
          → c ∉ n.σ → Gives n (Voc.byte b) m
          → set_object n c m ≡ n'
          → Matches n (constant row c b) m n'
      op_rule : {n n' : TermStores} {row k K : ℕ} {a m : Term}
          → k ∉ n.σ → n.σ K ≡ Some a → Gives n (Voc.op a) m
          → set_object n k m ≡ n'
          → Matches n (opposite row k K) m n'
      key_of_rule : {n n' : TermStores} {row k a : ℕ} {b m : Term}
          → k ∉ n.σ → n.σ a ≡ Some b → Gives n (Voc.key_of b) m → Decodes n k m
          → set_object n k m ≡ n'
          → Matches n (key_of row k a) m n'
      signature_rule : {n n₁ n' : TermStores} {row s r : ℕ} {key : Key} {o b m : Term}
          → KeyMatches n key o n₁
          → s ∉ n.σ → n.ρ r ≡ Some b → Holds n (Voc.verify o b m) → Decodes n s m
          → set_object n₁ s m ≡ n'
          → Matches n (signature row s key r) m n'
      hash_rule : {n n' : TermStores} {row h r : ℕ} {b m : Term}
          → h ∉ n.σ → n.ρ r ≡ Some b → Gives n (Voc.hash b) m → Decodes n h m
          → set_object n h m ≡ n'
          → Matches n (hash row h r) m n'
      tuple_rule : {n n' : TermStores} {row t : ℕ} {ps : Parts} {ms : List Term} {m : Term}
          → t ∉ n.σ → Decodes n t m → m ≡ tupled (collected ms)
          → MatchesParts (set_object n t m) ps ms n'
          → Matches n (tuple row t ps) m n'
      let_rule : {n n₁ n' : TermStores} {row r : ℕ} {p₁ p₂ : Pattern} {b m : Term}
          → r ∉ n.ρ
          → Matches n p₂ m n₁ → n₁.ρ r ≡ Some b → Matches n₁ p₁ b n'
          → Matches n (let_in row r p₁ p₂) m n'
      encryption_rule : {n n₁ n' : TermStores} {row e : ℕ} {key : Key} {p : Pattern} {o b m : Term}
          → KeyMatches n key o n₁
          → e ∉ n.σ → Decodes n e m → Gives n (Voc.decrypt o m) b
          → Matches (set_object n₁ e m) p b n'
          → Matches n (encryption row e key p) m n'

    -- exactly n parts, one after another
    pub data MatchesParts : TermStores → Parts → List Term → TermStores → Type 0 where
      no_more : {n : TermStores} → MatchesParts n end [] n
      one_more : {n n₁ n' : TermStores} {p : Pattern} {ps : Parts} {m : Term} {ms : List Term}
          → Matches n p m n₁ → MatchesParts n₁ ps ms n'
          → MatchesParts n (part p ps) (m ∷ ms) n'
