-- An instruction and its word: operation 5, A 8, B 8, n 3, zero 8. Operands go into A, then B.
use Rattle.std.specs.Prelude.{ℕ, List, [], ◌∷◌, get_or}
use Rattle.std.specs.Prelude.{Option, None, Some}
use Rattle.word.specs.Fields.{split, join, at}
use Rattle.numbers.specs.Sorts.{as_object, as_raw}
use Rattle.code.specs.declared.Instruction.{Instruction}
use Rattle.code.specs.declared.Instruction.TheVariants.{Load, Store, StoreConst, Decode, Encode, Create, AnalyzeTuple, CreateTuple, Opposite, KeyOf, Match, Encrypt, Decrypt, Sign, Verify, Hash}

abbrev pub word_widths : List ℕ
word_widths = 5 ∷ 8 ∷ 8 ∷ 3 ∷ 8 ∷ []

-- operation, A, B, n and zero
abbrev pub fields_of : Instruction → List ℕ
fields_of (Load r) = 2 ∷ r.0 ∷ 0 ∷ 0 ∷ 0 ∷ []
fields_of (Store r) = 3 ∷ r.0 ∷ 0 ∷ 0 ∷ 0 ∷ []
fields_of (StoreConst c b) = 4 ∷ c.0 ∷ b ∷ 0 ∷ 0 ∷ []
fields_of (Decode v) = 5 ∷ v.0 ∷ 0 ∷ 0 ∷ 0 ∷ []
fields_of (Encode v) = 6 ∷ v.0 ∷ 0 ∷ 0 ∷ 0 ∷ []
fields_of (Create v) = 7 ∷ v.0 ∷ 0 ∷ 0 ∷ 0 ∷ []
fields_of (AnalyzeTuple t b n) = 8 ∷ t.0 ∷ b.0 ∷ n ∷ 0 ∷ []
fields_of (CreateTuple t b n) = 9 ∷ t.0 ∷ b.0 ∷ n ∷ 0 ∷ []
fields_of (Opposite K k) = 10 ∷ K.0 ∷ k.0 ∷ 0 ∷ 0 ∷ []
fields_of KeyOf = 11 ∷ 0 ∷ 0 ∷ 0 ∷ 0 ∷ []
fields_of (Match r) = 12 ∷ r.0 ∷ 0 ∷ 0 ∷ 0 ∷ []
fields_of (Encrypt v) = 13 ∷ v.0 ∷ 0 ∷ 0 ∷ 0 ∷ []
fields_of (Decrypt v) = 14 ∷ v.0 ∷ 0 ∷ 0 ∷ 0 ∷ []
fields_of (Sign v) = 15 ∷ v.0 ∷ 0 ∷ 0 ∷ 0 ∷ []
fields_of (Verify v r) = 16 ∷ v.0 ∷ r.0 ∷ 0 ∷ 0 ∷ []
fields_of (Hash h) = 17 ∷ h.0 ∷ 0 ∷ 0 ∷ 0 ∷ []

unfoldable pub word_of : Instruction → ℕ
word_of instruction = join word_widths (fields_of instruction)

-- the instruction of an operation; 0, 1 and 18..31 have none
abbrev pub instruction_by : ℕ → ℕ → ℕ → ℕ → Option Instruction
instruction_by operation a b n =
    get_or
    (None ∷ None
    ∷ Some (Load (as_raw a)) ∷ Some (Store (as_raw a)) ∷ Some (StoreConst (as_object a) b)
    ∷ Some (Decode (as_object a)) ∷ Some (Encode (as_object a)) ∷ Some (Create (as_object a))
    ∷ Some (AnalyzeTuple (as_object a) (as_raw b) n) ∷ Some (CreateTuple (as_object a) (as_raw b) n)
    ∷ Some (Opposite (as_object a) (as_object b)) ∷ Some KeyOf ∷ Some (Match (as_raw a))
    ∷ Some (Encrypt (as_object a)) ∷ Some (Decrypt (as_object a)) ∷ Some (Sign (as_object a))
    ∷ Some (Verify (as_object a) (as_raw b)) ∷ Some (Hash (as_object a)) ∷ [])
    operation None

-- what a word says; its unused fields are not looked at
unfoldable pub instruction_of : ℕ → Option Instruction
instruction_of word =
    let fields = split word_widths word in
    instruction_by (at 0 fields) (at 1 fields) (at 2 fields) (at 3 fields)
