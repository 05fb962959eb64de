-- The reasons of 10 and the causes of 11: what is so in the state before the word.
use Rattle.std.specs.Prelude.{ℕ, zero, suc, ◌<◌, ◌≤◌, ◌≡◌, ◌↔◌, ◌≢◌, ◌⊎◌, List, [], ◌∷◌, map, length, get_or}
use Rattle.std.specs.Prelude.{Option, None, Some}
use Rattle.word.specs.All.{All}
use Rattle.word.specs.Fields.{split, at}
use Rattle.numbers.specs.Kinds.{kind_in}
use Rattle.numbers.specs.Limits.{most_names}
use Rattle.numbers.specs.declared.Object.{Object}
use Rattle.numbers.specs.declared.Raw.{Raw}
use Rattle.code.specs.Instruction.{instruction_of}
use Rattle.code.specs.declared.Instruction.{Instruction}
use Rattle.code.specs.declared.Instruction.TheVariants.{Load, Store, StoreConst, Decode, Encode, Create, AnalyzeTuple, CreateTuple, Opposite, KeyOf, Match, Encrypt, Decrypt, Sign, Verify, Hash}
use Rattle.terms.specs.Shape.{Shape, atom, encrypted, signed, hashed, tupled, parts_of}
use Rattle.terms.specs.Row.{row_of, tag_of, shape_of}
use Rattle.stores.specs.Certificates.{agent_of}
use Rattle.theory.specs.RowModel.{row_world}
use Rattle.theory.specs.Machine.{State, message}
use Rattle.calls.specs.Run.{Lent, run}
use Rattle.promises.specs.Answers.{RunAnswers}
use Rattle.promises.specs.Conditions.{RunChecked}
use Rattle.promises.specs.Steps.{After}

-- some cell of several is unset
abbrev pub Unset : List (Option ℕ) → Type 0
Unset [] = ⊥
Unset (cell ∷ rest) = (cell ≡ None) ⊎ Unset rest

module _ (s : State row_world) where
  abbrev pub object : ℕ → Option ℕ
  object v = s.stores.σ v

  -- n message cells from b on
  abbrev pub cells : ℕ → ℕ → List (Option ℕ)
  cells b zero = []
  cells b (suc n) = message row_world s b ∷ cells (suc b) n

  -- what a step reads
  abbrev pub reads : Instruction → List (Option ℕ)
  reads (Load r) = message row_world s r.0 ∷ []
  reads (Store r) = s.accumulator ∷ []
  reads (StoreConst c b) = []
  reads (Decode v) = s.accumulator ∷ []
  reads (Encode v) = object v.0 ∷ []
  reads (Create v) = []
  reads (AnalyzeTuple t b n) = object t.0 ∷ []
  reads (CreateTuple t b n) = cells b.0 n
  reads (Opposite K k) = object K.0 ∷ []
  reads KeyOf = s.accumulator ∷ []
  reads (Match r) = s.accumulator ∷ message row_world s r.0 ∷ []
  reads (Encrypt v) = object v.0 ∷ s.accumulator ∷ []
  reads (Decrypt v) = object v.0 ∷ s.accumulator ∷ []
  reads (Sign v) = object v.0 ∷ s.accumulator ∷ []
  reads (Verify v r) = object v.0 ∷ message row_world s r.0 ∷ s.accumulator ∷ []
  reads (Hash h) = s.accumulator ∷ []

  -- a term row, its tag, and the number in its low 16 bits
  abbrev pub row_at : ℕ → ℕ
  row_at row = get_or s.stores.memory.rows row 0

  abbrev pub tag : ℕ → ℕ
  tag row = tag_of (row_at row)

  abbrev pub number : ℕ → ℕ
  number row = at 2 (split (4 ∷ 44 ∷ 16 ∷ []) (row_at row))

  abbrev pub shape : ℕ → Shape ℕ
  shape row = shape_of (row_at row)

  -- private key i goes with public key i, shared key i with itself
  abbrev pub GoesWith : ℕ → ℕ → Type 0
  GoesWith k l = (number k ≡ number l) × (((tag k ≡ 5) × (tag l ≡ 4)) ⊎ ((tag k ≡ 6) × (tag l ≡ 6)))

  -- no row equals the term, and none is unused
  abbrev pub NoRow : Shape ℕ → Type 0
  NoRow term = ((row : ℕ) → row < s.stores.memory.used → row_at row ≢ row_of term) × (length s.stores.memory.rows ≤ s.stores.memory.used)

  module _ (kind : ℕ → ℕ) where
    pub data Sticks : Instruction → ℕ → Type 0 where
      -- 1: what the step reads is not all set
      unset : {i : Instruction} → Unset (reads i) → Sticks i 1
      -- 2: DECODE of another kind
      other_kind : {v : Object} {m : ℕ} → s.accumulator ≡ Some m → tag m ≢ kind v.0 → Sticks (Decode v) 2
      -- 3: MATCH of another row
      differs : {r : Raw} {a b : ℕ} → s.accumulator ≡ Some a → message row_world s r.0 ≡ Some b → a ≢ b → Sticks (Match r) 3
      -- 4: not so many parts
      part_count : {t : Object} {b : Raw} {n m : ℕ} → object t.0 ≡ Some m → length (parts_of (shape m)) ≢ n → Sticks (AnalyzeTuple t b n) 4
      -- 5: no certificate for the accumulator
      no_certificate : {a : ℕ} → s.accumulator ≡ Some a → All (λ word. agent_of word ≢ a) s.stores.memory.certificates → Sticks KeyOf 5
      -- 6: not an encryption that the key opens
      not_opened : {v : Object} {k m : ℕ} → object v.0 ≡ Some k → s.accumulator ≡ Some m
          → ((l b : ℕ) → shape m ≡ encrypted l b → GoesWith k l → ⊥) → Sticks (Decrypt v) 6
      -- 7: not a signature of this body that the key verifies
      not_verified : {v : Object} {r : Raw} {k b m : ℕ} → object v.0 ≡ Some k → message row_world s r.0 ≡ Some b → s.accumulator ≡ Some m
          → ((l : ℕ) → shape m ≡ signed l b → GoesWith l k → ⊥) → Sticks (Verify v r) 7

    pub data Fills : Instruction → Type 0 where
      -- CREATE at counter 65,536
      no_name : {v : Object} → most_names ≤ s.stores.memory.counter → Fills (Create v)
      -- a new row is needed and none is unused
      name : {v : Object} → s.stores.memory.counter < most_names → NoRow (atom (kind v.0) s.stores.memory.counter) → Fills (Create v)
      byte : {c : Object} {b : ℕ} → NoRow (atom 1 b) → Fills (StoreConst c b)
      public_key : {K k : Object} {a : ℕ} → object K.0 ≡ Some a → NoRow (atom 4 (number a)) → Fills (Opposite K k)
      encryption : {v : Object} {k m : ℕ} → object v.0 ≡ Some k → s.accumulator ≡ Some m → NoRow (encrypted k m) → Fills (Encrypt v)
      signature : {v : Object} {k m : ℕ} → object v.0 ≡ Some k → s.accumulator ≡ Some m → NoRow (signed k m) → Fills (Sign v)
      hash : {h : Object} {m : ℕ} → s.accumulator ≡ Some m → NoRow (hashed m) → Fills (Hash h)
      tuple : {t : Object} {b : Raw} {n : ℕ} (ms : List ℕ) → cells b.0 n ≡ map Some ms → NoRow (tupled ms) → Fills (CreateTuple t b n)

module _ (x : Lent) (code : List ℕ) where
  -- a word, and what is so of its instruction in the state before it
  pub record Before (place : ℕ) (So : State row_world → Instruction → Type 0) : Type 0 where
    pub state : State row_world
    pub after : After x code place state
    pub inside : place < length code
    pub instruction : Instruction
    pub says : instruction_of (get_or code place 0) ≡ Some instruction
    pub so : So state instruction

  pub record ReasonTable : Type 0 where
    pub stuck : (word reason : ℕ) → RunAnswers (run x code) 10 word reason ↔ (RunChecked x code × Before word λ s i. Sticks s (kind_in x.kinds) i reason)
    pub no_room : (word : ℕ) → RunAnswers (run x code) 11 word 0 ↔ (RunChecked x code × Before word λ s i. Fills s (kind_in x.kinds) i)
