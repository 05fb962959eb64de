-- Figure 1. The first number of each form is its row.
use Rattle.std.specs.Prelude.{ℕ, zero, suc, ◌+◌, ◌<◌, ◌≤◌}
use Rattle.numbers.specs.Limits.{most_parts}

-- the key of E and S: a variable, k : op(K) or k : keyOf(a)
pub data Key : Type 0 where
  plain_key : ℕ → Key
  op_key : ℕ → ℕ → Key
  certified_key : ℕ → ℕ → Key

mutual
  pub data Pattern : Type 0 where
    -- v
    object : ℕ → ℕ → Pattern
    -- r
    raw : ℕ → ℕ → Pattern
    -- c : C
    constant : ℕ → ℕ → ℕ → Pattern
    -- k : op(K)
    opposite : ℕ → ℕ → ℕ → Pattern
    -- k : keyOf(a)
    key_of : ℕ → ℕ → ℕ → Pattern
    -- e : E(key, p)
    encryption : ℕ → ℕ → Key → Pattern → Pattern
    -- s : S(key, r)
    signature : ℕ → ℕ → Key → ℕ → Pattern
    -- h : H(r)
    hash : ℕ → ℕ → ℕ → Pattern
    -- t : [p1 .. pn]
    tuple : ℕ → ℕ → Parts → Pattern
    -- let r = p1 in p2
    let_in : ℕ → ℕ → Pattern → Pattern → Pattern

  pub data Parts : Type 0 where
    end : Parts
    part : Pattern → Parts → Parts

-- the n of a tuple
unfoldable pub count : Parts → ℕ
count end = zero
count (part p ps) = suc (count ps)

-- the rows of a pattern
unfoldable mutual
  pub size : Pattern → ℕ
  size (object row v) = 1
  size (raw row r) = 1
  size (constant row c b) = 1
  size (opposite row k K) = 1
  size (key_of row k a) = 1
  size (encryption row e key p) = 1 + size p
  size (signature row s key r) = 1
  size (hash row h r) = 1
  size (tuple row t ps) = 1 + sizes ps
  size (let_in row r p₁ p₂) = 1 + (size p₁ + size p₂)

  pub sizes : Parts → ℕ
  sizes end = 0
  sizes (part p ps) = size p + sizes ps

-- raw variables are below a number
unfoldable mutual
  pub RawsBelow : ℕ → Pattern → Type 0
  RawsBelow most (object row v) = Unit {0}
  RawsBelow most (raw row r) = r < most
  RawsBelow most (constant row c b) = Unit {0}
  RawsBelow most (opposite row k K) = Unit {0}
  RawsBelow most (key_of row k a) = Unit {0}
  RawsBelow most (encryption row e key p) = RawsBelow most p
  RawsBelow most (signature row s key r) = r < most
  RawsBelow most (hash row h r) = r < most
  RawsBelow most (tuple row t ps) = PartsBelow most ps
  RawsBelow most (let_in row r p₁ p₂) = (r < most) × RawsBelow most p₁ × RawsBelow most p₂

  pub PartsBelow : ℕ → Parts → Type 0
  PartsBelow most end = Unit {0}
  PartsBelow most (part p ps) = RawsBelow most p × PartsBelow most ps

-- what a row has room for: bytes below 256, and at most four parts
unfoldable mutual
  pub Packed : Pattern → Type 0
  Packed (object row v) = Unit {0}
  Packed (raw row r) = Unit {0}
  Packed (constant row c b) = b < 256
  Packed (opposite row k K) = Unit {0}
  Packed (key_of row k a) = Unit {0}
  Packed (encryption row e key p) = Packed p
  Packed (signature row s key r) = Unit {0}
  Packed (hash row h r) = Unit {0}
  Packed (tuple row t ps) = (count ps ≤ most_parts) × PackedParts ps
  Packed (let_in row r p₁ p₂) = Packed p₁ × Packed p₂

  pub PackedParts : Parts → Type 0
  PackedParts end = Unit {0}
  PackedParts (part p ps) = Packed p × PackedParts ps
