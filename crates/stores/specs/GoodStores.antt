-- Refusal 3 in the words of document 01: what valid stores are to run, and what declared ones are to compile.
use Rattle.std.specs.Prelude.{ℕ, ◌<◌, ◌≤◌, ◌≡◌, ◌⊎◌, ◌≢◌, List, [], ◌∷◌, length, get_or}
use Rattle.numbers.specs.Kinds.{agent_kind, public_key, tuple_kind, kind_in}
use Rattle.word.specs.All.{All}
use Rattle.terms.specs.Row.{tag_of, row_at}
use Rattle.stores.specs.Cells.{unset}
use Rattle.stores.specs.Certificates.{agent_of, key_of, spare_of}

-- a pair of an agent row and a public key row, both used
pub record GoodPair (rows : List ℕ) (used word : ℕ) : Type 0 where
  pub spare : spare_of word ≡ 0
  pub agent : (agent_of word < used) × (tag_of (row_at rows (agent_of word)) ≡ agent_kind)
  pub key : (key_of word < used) × (tag_of (row_at rows (key_of word)) ≡ public_key)

-- no agent twice
abbrev pub AgentsOnce : List ℕ → Type 0
AgentsOnce [] = Unit {0}
AgentsOnce (word ∷ rest) = All (λ other. agent_of other ≢ agent_of word) rest × AgentsOnce rest

pub record ValidCertificates (rows : List ℕ) (used : ℕ) (certificates : List ℕ) : Type 0 where
  pub pairs : All (GoodPair rows used) certificates
  pub once : AgentsOnce certificates

-- what is asked of each variable's kind and cell
abbrev pub EachVariable : (ℕ → ℕ → Type 0) → List ℕ → List ℕ → Type 0
EachVariable P kinds cells = (v : ℕ) → v < length kinds → v < length cells → P (kind_in kinds v) (get_or cells v unset)

-- the cell of an undeclared variable is unset
abbrev pub UndeclaredUnset : ℕ → ℕ → Type 0
UndeclaredUnset kind cell = kind ≡ 0 → cell ≡ unset

-- a set object cell holds a used row of the variable's kind
abbrev pub HoldsKind : List ℕ → ℕ → ℕ → ℕ → Type 0
HoldsKind rows used kind cell = cell ≢ unset → (cell < used) × (tag_of (row_at rows cell) ≡ kind)

-- a cell is unset or a used row
abbrev pub UnsetOrUsed : ℕ → ℕ → Type 0
UnsetOrUsed used cell = (cell ≡ unset) ⊎ (cell < used)

-- each kind is at most that of a tuple
abbrev pub KnownKinds : List ℕ → Type 0
KnownKinds kinds = All (λ kind. kind ≤ tuple_kind) kinds

-- not 3, as compile sees it
pub record Declared (kinds objects : List ℕ) : Type 0 where
  pub known : KnownKinds kinds
  pub undeclared : EachVariable UndeclaredUnset kinds objects

-- not 3, as run sees it
pub record GoodStores (rows : List ℕ) (used : ℕ) (kinds objects messages certificates : List ℕ) (accumulator : ℕ) : Type 0 where
  pub known : KnownKinds kinds
  pub undeclared : EachVariable UndeclaredUnset kinds objects
  pub typed : EachVariable (HoldsKind rows used) kinds objects
  pub cells : All (UnsetOrUsed used) messages
  pub certified : ValidCertificates rows used certificates
  pub held : UnsetOrUsed used accumulator
