-- The table of uses: the cells that an instruction reads, in the order in which they are looked at, and those that it writes.
use Rattle.std.specs.Prelude.{ℕ, List, [], ◌∷◌}
use Rattle.code.specs.declared.Instruction.{Instruction}
use Rattle.code.specs.declared.Instruction.TheVariants.{Load, Store, StoreConst, Decode, Encode, Create, AnalyzeTuple, CreateTuple, Opposite, KeyOf, Match, Encrypt, Decrypt, Sign, Verify, Hash}

-- an object variable, a message cell, or the n scratch cells of a tuple's parts from one on
pub data Used : Type 0 where
  object_at : ℕ → Used
  message_at : ℕ → Used
  messages_at : ℕ → ℕ → Used

pub record Uses : Type 0 where
  pub reads : List Used
  pub writes : List Used

infix 20 ◌⟶◌
abbrev pub ◌⟶◌ : List Used → List Used → Uses
◌⟶◌ reads writes = record { reads = reads; writes = writes }

-- what is read ⟶ what is written, the accumulator left out
abbrev pub uses_of : Instruction → Uses
uses_of (Load r) = message_at r.0 ∷ [] ⟶ []
uses_of (Store r) = [] ⟶ message_at r.0 ∷ []
uses_of (StoreConst c b) = [] ⟶ object_at c.0 ∷ []
uses_of (Decode v) = [] ⟶ object_at v.0 ∷ []
uses_of (Encode v) = object_at v.0 ∷ [] ⟶ []
uses_of (Create v) = [] ⟶ object_at v.0 ∷ []
uses_of (AnalyzeTuple t b n) = object_at t.0 ∷ [] ⟶ messages_at b.0 n ∷ []
uses_of (CreateTuple t b n) = messages_at b.0 n ∷ [] ⟶ object_at t.0 ∷ []
uses_of (Opposite K k) = object_at K.0 ∷ [] ⟶ object_at k.0 ∷ []
uses_of KeyOf = [] ⟶ []
uses_of (Match r) = message_at r.0 ∷ [] ⟶ []
uses_of (Encrypt v) = object_at v.0 ∷ [] ⟶ []
uses_of (Decrypt v) = object_at v.0 ∷ [] ⟶ []
uses_of (Sign v) = object_at v.0 ∷ [] ⟶ []
uses_of (Verify v r) = object_at v.0 ∷ message_at r.0 ∷ [] ⟶ []
uses_of (Hash h) = [] ⟶ []
