-- The paper's vocabulary over any type of messages and any memory.
use Rattle.std.specs.Prelude.{ℕ, Bool, List, [], ◌∷◌}
use Rattle.word.specs.Lowest.{one_of}
use Rattle.theory.specs.Outcome.{Answer}

-- the messages that are made, and those that are taken out of others
pub data Op (M : Type 0) : Type 0 where
  byte : ℕ → Op M
  create : ℕ → Op M
  op : M → Op M
  key_of : M → Op M
  encrypt : M → M → Op M
  decrypt : M → M → Op M
  sign : M → M → Op M
  hash : M → Op M
  tuple : List M → Op M

-- the conditions on messages: of a kind, the same, verified by a key for a body
pub data Test (M : Type 0) : Type 0 where
  is : ℕ → M → Test M
  same : M → M → Test M
  verify : M → M → M → Test M

-- the kinds of which CREATE makes a new object
unfoldable pub creatable : ℕ → Bool
creatable kind = one_of (2 ∷ 5 ∷ 6 ∷ []) kind

pub record World : Type 1 where
  pub Msg : Type 0
  pub Mem : Type 0
  pub apply : Op Msg → Mem → Answer (Msg × Mem)
  pub test : Test Msg → Mem → Answer (Unit {0})
  -- the parts of a tuple of exactly n
  pub parts : Msg → ℕ → Mem → Answer (ℕ → Msg)
