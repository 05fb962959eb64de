-- The shape of a term over its parts. A row is a shape over row numbers, an abstract term one over terms.
use Rattle.std.specs.Prelude.{ℕ, List, [], ◌∷◌}
use Rattle.numbers.specs.Kinds.{encryption_kind, signature_kind, hash_kind, tuple_kind}

pub data Shape (A : Type 0) : Type 0 where
  -- tags 1 to 6, byte, nonce, agent, public, private and shared key: the tag and the number
  atom : ℕ → ℕ → Shape A
  -- key and body
  encrypted : A → A → Shape A
  signed : A → A → Shape A
  hashed : A → Shape A
  tupled : List A → Shape A

module _ {A : Type 0} where
  -- tags are also the kinds of object variables
  abbrev pub kind_of : Shape A → ℕ
  kind_of (atom tag number) = tag
  kind_of (encrypted key body) = encryption_kind
  kind_of (signed key body) = signature_kind
  kind_of (hashed body) = hash_kind
  kind_of (tupled parts) = tuple_kind

  -- the key counts as a part
  abbrev pub parts_of : Shape A → List A
  parts_of (atom tag number) = []
  parts_of (encrypted key body) = key ∷ body ∷ []
  parts_of (signed key body) = key ∷ body ∷ []
  parts_of (hashed body) = body ∷ []
  parts_of (tupled parts) = parts
