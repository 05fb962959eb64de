-- The rows of a pattern: children before their owner, the root last.
use Rattle.std.specs.Prelude.{ℕ, ◌+◌, ◌-◌, ◌<◌, ◌≤◌, List, [], ◌∷◌, ◌++◌, length, get_or}
use Rattle.numbers.specs.Limits.{variables, named_cells, most_pattern_rows}
use Rattle.word.specs.Fields.{join}
use Rattle.patterns.specs.Forms.{object_form, raw_form, constant_form, opposite_form, key_of_form, encryption_form, signature_form, hash_form, tuple_form, let_form, plain_form, op_form, certified_form}
use Rattle.patterns.specs.Pattern.{Key, plain_key, op_key, certified_key, Pattern, object, raw, constant, opposite, key_of, encryption, signature, hash, tuple, let_in, Parts, end, part}
use Rattle.patterns.specs.Pattern.{size, sizes, RawsBelow, Packed}
use Rattle.patterns.specs.Row.{pattern_widths}

-- the fields of a row over its children
abbrev pub row_fields : ℕ → ℕ → ℕ → ℕ → ℕ → ℕ → List ℕ → List ℕ
row_fields tag v f x y r children =
    tag ∷ v ∷ f ∷ x ∷ y ∷ r ∷ length children ∷ get_or children 0 0 ∷ get_or children 1 0 ∷ get_or children 2 0 ∷ get_or children 3 0 ∷ 0 ∷ []

unfoldable pub row_by : ℕ → ℕ → ℕ → ℕ → ℕ → ℕ → List ℕ → ℕ
row_by tag v f x y r children = join pattern_widths (row_fields tag v f x y r children)

-- F, X and Y of a key
abbrev pub key_form : Key → ℕ
key_form (plain_key x) = plain_form
key_form (op_key k K) = op_form
key_form (certified_key k a) = certified_form

abbrev pub key_name : Key → ℕ
key_name (plain_key x) = x
key_name (op_key k K) = k
key_name (certified_key k a) = k

abbrev pub key_other : Key → ℕ
key_other (plain_key x) = 0
key_other (op_key k K) = K
key_other (certified_key k a) = a

-- the row of a pattern that is laid from a row on, and those of the parts of a tuple
abbrev pub root_from : ℕ → Pattern → ℕ
root_from first p = first + (size p - 1)

unfoldable pub roots : ℕ → Parts → List ℕ
roots first end = []
roots first (part p ps) = root_from first p ∷ roots (first + size p) ps

-- the rows of a pattern from a row on
unfoldable mutual
  pub laid : ℕ → Pattern → List ℕ
  laid first (object row v) = row_by object_form v 0 0 0 0 [] ∷ []
  laid first (raw row r) = row_by raw_form 0 0 0 0 r [] ∷ []
  laid first (constant row c b) = row_by constant_form c 0 b 0 0 [] ∷ []
  laid first (opposite row k K) = row_by opposite_form k 0 0 K 0 [] ∷ []
  laid first (key_of row k a) = row_by key_of_form k 0 0 a 0 [] ∷ []
  laid first (encryption row e key p) =
      laid first p ++ (row_by encryption_form e (key_form key) (key_name key) (key_other key) 0 (root_from first p ∷ []) ∷ [])
  laid first (signature row s key r) = row_by signature_form s (key_form key) (key_name key) (key_other key) r [] ∷ []
  laid first (hash row h r) = row_by hash_form h 0 0 0 r [] ∷ []
  laid first (tuple row t ps) = laid_parts first ps ++ (row_by tuple_form t 0 0 0 0 (roots first ps) ∷ [])
  laid first (let_in row r p₁ p₂) =
      (laid first p₁ ++ laid (first + size p₁) p₂) ++ (row_by let_form 0 0 0 0 r (root_from first p₁ ∷ root_from (first + size p₁) p₂ ∷ []) ∷ [])

  pub laid_parts : ℕ → Parts → List ℕ
  laid_parts first end = []
  laid_parts first (part p ps) = laid first p ++ laid_parts (first + size p) ps

-- the same pattern, each form at the row where it is laid
unfoldable mutual
  pub numbered : ℕ → Pattern → Pattern
  numbered first (object row v) = object first v
  numbered first (raw row r) = raw first r
  numbered first (constant row c b) = constant first c b
  numbered first (opposite row k K) = opposite first k K
  numbered first (key_of row k a) = key_of first k a
  numbered first (encryption row e key p) = encryption (first + size p) e key (numbered first p)
  numbered first (signature row s key r) = signature first s key r
  numbered first (hash row h r) = hash first h r
  numbered first (tuple row t ps) = tuple (first + sizes ps) t (numbered_parts first ps)
  numbered first (let_in row r p₁ p₂) = let_in (first + (size p₁ + size p₂)) r (numbered first p₁) (numbered (first + size p₁) p₂)

  pub numbered_parts : ℕ → Parts → Parts
  numbered_parts first end = end
  numbered_parts first (part p ps) = part (numbered first p) (numbered_parts (first + size p) ps)

-- a pattern with its row numbers forgotten
unfoldable mutual
  pub bare : Pattern → Pattern
  bare (object row v) = object 0 v
  bare (raw row r) = raw 0 r
  bare (constant row c b) = constant 0 c b
  bare (opposite row k K) = opposite 0 k K
  bare (key_of row k a) = key_of 0 k a
  bare (encryption row e key p) = encryption 0 e key (bare p)
  bare (signature row s key r) = signature 0 s key r
  bare (hash row h r) = hash 0 h r
  bare (tuple row t ps) = tuple 0 t (bare_parts ps)
  bare (let_in row r p₁ p₂) = let_in 0 r (bare p₁) (bare p₂)

  pub bare_parts : Parts → Parts
  bare_parts end = end
  bare_parts (part p ps) = part (bare p) (bare_parts ps)

-- object variables are below a number, in keys too
abbrev pub KeyBelow : ℕ → Key → Type 0
KeyBelow most key = (key_name key < most) × (key_other key < most)

unfoldable mutual
  pub ObjectsBelow : ℕ → Pattern → Type 0
  ObjectsBelow most (object row v) = v < most
  ObjectsBelow most (raw row r) = Unit {0}
  ObjectsBelow most (constant row c b) = c < most
  ObjectsBelow most (opposite row k K) = (k < most) × (K < most)
  ObjectsBelow most (key_of row k a) = (k < most) × (a < most)
  ObjectsBelow most (encryption row e key p) = (e < most) × KeyBelow most key × ObjectsBelow most p
  ObjectsBelow most (signature row s key r) = (s < most) × KeyBelow most key
  ObjectsBelow most (hash row h r) = h < most
  ObjectsBelow most (tuple row t ps) = (t < most) × ObjectsInParts most ps
  ObjectsBelow most (let_in row r p₁ p₂) = ObjectsBelow most p₁ × ObjectsBelow most p₂

  pub ObjectsInParts : ℕ → Parts → Type 0
  ObjectsInParts most end = Unit {0}
  ObjectsInParts most (part p ps) = ObjectsBelow most p × ObjectsInParts most ps

-- what the widths of a row and the number of rows allow
pub record Fits (p : Pattern) : Type 0 where
  pub objects : ObjectsBelow variables p
  pub raws : RawsBelow named_cells p
  pub packed : Packed p
  pub rows : size p ≤ most_pattern_rows
