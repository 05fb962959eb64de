-- The limits of compiled code: at most 767 words, message cells up to 254, and every word good for run.
use Rattle.std.specs.Prelude.{ℕ, ◌+◌, ◌<◌, ◌≤◌, List, length, T}
use Rattle.word.specs.All.{All}
use Rattle.code.specs.Words.{operands_fit}
use Rattle.code.specs.declared.Instruction.{Instruction}
use Rattle.code.specs.declared.Instruction.TheVariants.{Load, Store, StoreConst, Decode, Encode, Create, AnalyzeTuple, CreateTuple, Opposite, KeyOf, Match, Encrypt, Decrypt, Sign, Verify, Hash}
use Rattle.theory.specs.Machine.{Line}
use Rattle.theory.specs.Emission.{Env}

-- every message cell of an instruction is at most cell 254, and its byte fits
abbrev pub CellsFit : Instruction → Type 0
CellsFit (Load r) = r.0 ≤ 254
CellsFit (Store r) = r.0 ≤ 254
CellsFit (StoreConst c b) = b < 256
CellsFit (Decode v) = Unit {0}
CellsFit (Encode v) = Unit {0}
CellsFit (Create v) = Unit {0}
CellsFit (AnalyzeTuple t b n) = (b.0 ≤ 254) × (b.0 + n ≤ 255)
CellsFit (CreateTuple t b n) = (b.0 ≤ 254) × (b.0 + n ≤ 255)
CellsFit (Opposite K k) = Unit {0}
CellsFit KeyOf = Unit {0}
CellsFit (Match r) = r.0 ≤ 254
CellsFit (Encrypt v) = Unit {0}
CellsFit (Decrypt v) = Unit {0}
CellsFit (Sign v) = Unit {0}
CellsFit (Verify v r) = r.0 ≤ 254
CellsFit (Hash h) = Unit {0}

-- an instruction that passes run's check, with its cells at most 254
pub record InRange (kind : ℕ → ℕ) (i : Instruction) : Type 0 where
  pub operands : T (operands_fit kind i)
  pub cells : CellsFit i

-- of every line
abbrev pub AllInRange : (ℕ → ℕ) → List Line → Type 0
AllInRange kind c = All (λ l. InRange kind l.instruction) c

-- what a compiler that does not refuse has taken: at most 767 words, the scratch numbers up to 190, which are the cells up to 254, and lines in range
pub record InLimits (kind : ℕ → ℕ) (c : List Line) (e : Env) : Type 0 where
  pub words : length c ≤ 767
  pub scratch_numbers : e.next ≤ 191
  pub lines : AllInRange kind c
