-- A valid term table: refusal 2 in the words of document 01.
use Rattle.std.specs.Prelude.{ℕ, ◌<◌, ◌≤◌, ◌≡◌, ◌⊎◌, ◌≢◌, List}
use Rattle.numbers.specs.Kinds.{byte_kind, agent_kind, public_key, private_key, shared_key, tuple_kind}
use Rattle.word.specs.All.{All}
use Rattle.terms.specs.Shape.{Shape, atom, encrypted, signed, hashed, tupled, parts_of}
use Rattle.terms.specs.Row.{row_of, tag_of, shape_of, row_at}
use Rattle.terms.specs.Rules.{used_rows}

-- a byte is at most 255; nonces and keys are below the name counter; agents are any
abbrev pub NumberFits : ℕ → Shape ℕ → Type 0
NumberFits counter (atom tag number) = (tag ≡ byte_kind → number < 256) × (tag ≢ byte_kind → tag ≢ agent_kind → number < counter)
NumberFits counter (encrypted key body) = Unit {0}
NumberFits counter (signed key body) = Unit {0}
NumberFits counter (hashed body) = Unit {0}
NumberFits counter (tupled parts) = Unit {0}

-- parts have smaller row numbers than their owner
abbrev pub PartsBelow : ℕ → Shape ℕ → Type 0
PartsBelow row shape = All (λ part. part < row) (parts_of shape)

-- the tags of keys that encrypt, and of those that sign
abbrev pub Encrypts : ℕ → Type 0
Encrypts tag = (tag ≡ public_key) ⊎ (tag ≡ shared_key)

abbrev pub Signs : ℕ → Type 0
Signs tag = (tag ≡ private_key) ⊎ (tag ≡ shared_key)

abbrev pub KeyKindFits : List ℕ → Shape ℕ → Type 0
KeyKindFits rows (atom tag number) = Unit {0}
KeyKindFits rows (encrypted key body) = Encrypts (tag_of (row_at rows key))
KeyKindFits rows (signed key body) = Signs (tag_of (row_at rows key))
KeyKindFits rows (hashed body) = Unit {0}
KeyKindFits rows (tupled parts) = Unit {0}

-- the rules of a used row
pub record GoodTerm (rows : List ℕ) (counter row word : ℕ) : Type 0 where
  pub known : (byte_kind ≤ tag_of word) × (tag_of word ≤ tuple_kind)
  pub packed : row_of (shape_of word) ≡ word
  pub number : NumberFits counter (shape_of word)
  pub below : PartsBelow row (shape_of word)
  pub key : KeyKindFits rows (shape_of word)
  pub new : (earlier : ℕ) → earlier < row → row_at rows earlier ≢ word

pub record ValidTable (rows : List ℕ) (counter : ℕ) : Type 0 where
  pub good : (row : ℕ) → row < used_rows rows → GoodTerm rows counter row (row_at rows row)
  pub zeros : (row : ℕ) → used_rows rows ≤ row → row_at rows row ≡ 0

-- what is asked of a row, used or not
abbrev pub Sound : List ℕ → ℕ → ℕ → ℕ → Type 0
Sound rows counter row word = (row < used_rows rows → GoodTerm rows counter row word) × (used_rows rows ≤ row → word ≡ 0)
