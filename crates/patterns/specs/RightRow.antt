-- Refusal 5 in the words of document 01.
use Rattle.std.specs.Prelude.{ℕ, ◌≤◌, ◌≡◌, ◌⊎◌, Bool, true, false, not}
use Rattle.numbers.specs.Kinds.{byte_kind, agent_kind, public_key, private_key, shared_key, encryption_kind, signature_kind, hash_kind, tuple_kind}
use Rattle.patterns.specs.Forms.{object_form, constant_form, opposite_form, key_of_form, encryption_form, signature_form, hash_form, tuple_form, plain_form, op_form, certified_form}
use Rattle.patterns.specs.Row.{PatternFields}

module _ (kind : ℕ → ℕ) (row : PatternFields) where
  -- the key of a matched E or a created S: a variable of kind 5 or 6
  pub record PrivateKey : Type 0 where
    pub plain : row.f ≡ plain_form
    pub kinds : (kind row.x ≡ private_key) ⊎ (kind row.x ≡ shared_key)

  -- the key of a matched S or a created E: a variable of kind 4 or 6, or a public key that is found
  pub record PublicKey : Type 0 where
    pub plain : row.f ≡ plain_form → (kind row.x ≡ public_key) ⊎ (kind row.x ≡ shared_key)
    pub op : row.f ≡ op_form → (kind row.x ≡ public_key) × (kind row.y ≡ private_key)
    pub own : row.f ≡ certified_form → (kind row.x ≡ public_key) × (kind row.y ≡ agent_kind)

  abbrev pub RightKey : Bool → Type 0
  RightKey true = PublicKey
  RightKey false = PrivateKey

-- every variable of a row has the kind that the row's form wants
pub record RightRow (create : Bool) (kind : ℕ → ℕ) (row : PatternFields) : Type 0 where
  pub object : row.tag ≡ object_form → (byte_kind ≤ kind row.v) × (kind row.v ≤ hash_kind)
  pub constant : row.tag ≡ constant_form → kind row.v ≡ byte_kind
  pub opposite : row.tag ≡ opposite_form → (kind row.v ≡ public_key) × (kind row.y ≡ private_key)
  pub key_of : row.tag ≡ key_of_form → (kind row.v ≡ public_key) × (kind row.y ≡ agent_kind)
  pub encryption : row.tag ≡ encryption_form → (kind row.v ≡ encryption_kind) × RightKey kind row create
  pub signature : row.tag ≡ signature_form → (kind row.v ≡ signature_kind) × RightKey kind row (not create)
  pub hash : row.tag ≡ hash_form → kind row.v ≡ hash_kind
  pub tuple : row.tag ≡ tuple_form → kind row.v ≡ tuple_kind
