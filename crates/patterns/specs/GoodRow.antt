-- Refusal 4 in the words of document 01.
use Rattle.std.specs.Prelude.{ℕ, ◌<◌, ◌≤◌, ◌≡◌, ◌⊎◌, List, [], ◌∷◌, length, get_or, drop}
use Rattle.numbers.specs.Limits.{most_parts}
use Rattle.word.specs.All.{All}
use Rattle.patterns.specs.Forms.{object_form, raw_form, constant_form, opposite_form, key_of_form, encryption_form, signature_form, hash_form, tuple_form, let_form, form_count, plain_form, certified_form}
use Rattle.patterns.specs.Row.{PatternFields, pattern_fields, children, children_of}

-- fields that a form does not use
abbrev pub Zero : List ℕ → Type 0
Zero fields = All (λ field. field ≡ 0) fields

-- F=0 variable X; F=1 X : op(Y); F=2 X : keyOf(Y); F=3 is bad. X above 63 is bad in a key
pub record GoodKey (row : PatternFields) : Type 0 where
  pub form : row.f ≤ certified_form
  pub variable : row.x ≤ 63
  pub alone : row.f ≡ plain_form → row.y ≡ 0

pub record GoodRow (place : ℕ) (row : PatternFields) : Type 0 where
  pub tag : row.tag < form_count
  pub object : row.tag ≡ object_form → Zero (row.f ∷ row.x ∷ row.y ∷ row.r ∷ row.n ∷ [])
  pub raw : row.tag ≡ raw_form → Zero (row.v ∷ row.f ∷ row.x ∷ row.y ∷ row.n ∷ [])
  pub constant : row.tag ≡ constant_form → Zero (row.f ∷ row.y ∷ row.r ∷ row.n ∷ [])
  pub opposite : row.tag ≡ opposite_form → Zero (row.f ∷ row.x ∷ row.r ∷ row.n ∷ [])
  pub key_of : row.tag ≡ key_of_form → Zero (row.f ∷ row.x ∷ row.r ∷ row.n ∷ [])
  pub encryption : row.tag ≡ encryption_form → GoodKey row × (row.n ≡ 1) × Zero (row.r ∷ [])
  pub signature : row.tag ≡ signature_form → GoodKey row × Zero (row.n ∷ [])
  pub hash : row.tag ≡ hash_form → Zero (row.f ∷ row.x ∷ row.y ∷ row.n ∷ [])
  pub tuple : row.tag ≡ tuple_form → (row.n ≤ most_parts) × Zero (row.f ∷ row.x ∷ row.y ∷ row.r ∷ [])
  pub let_in : row.tag ≡ let_form → (row.n ≡ 2) × Zero (row.v ∷ row.f ∷ row.x ∷ row.y ∷ [])
  -- slots past the children, and the last bit
  pub rest : Zero (drop row.n row.slots)
  pub spare : row.spare ≡ 0
  -- a child has a smaller number than its owner
  pub below : All (λ child. child < place) (children row)

abbrev pub fields_at : List ℕ → ℕ → PatternFields
fields_at rows place = pattern_fields (get_or rows place 0)

abbrev pub children_at : List ℕ → ℕ → List ℕ
children_at rows place = children_of (get_or rows place 0)

-- a slot of a row names a child
pub record NamesChild (rows : List ℕ) (owner slot child : ℕ) : Type 0 where
  pub inside : owner < length rows
  pub used : slot < length (children_at rows owner)
  pub here : get_or (children_at rows owner) slot 0 ≡ child

-- a child is taken already, by a row before or by a slot before
pub record TakenBefore (rows : List ℕ) (place slot child : ℕ) : Type 0 where
  pub owner : ℕ
  pub other : ℕ
  pub names : NamesChild rows owner other child
  pub before : (owner < place) ⊎ ((owner ≡ place) × (other < slot))

pub record NamesTaken (rows : List ℕ) (place : ℕ) : Type 0 where
  pub slot : ℕ
  pub child : ℕ
  pub names : NamesChild rows place slot child
  pub taken : TakenBefore rows place slot child

-- a row that is bad in itself, or names a child already taken
abbrev pub BadRow : List ℕ → ℕ → Type 0
BadRow rows place = (GoodRow place (fields_at rows place) → ⊥) ⊎ NamesTaken rows place

-- a row that nobody names
abbrev pub Unnamed : List ℕ → ℕ → Type 0
Unnamed rows place = (owner slot : ℕ) → NamesChild rows owner slot place → ⊥
