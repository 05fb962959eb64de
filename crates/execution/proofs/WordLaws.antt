-- A good word that is read: its instruction's operands fit.
use Rattle.std.specs.Prelude.{Option, Some}
use Prim.Native.Nat.{ℕ}
use mathlib.Core.Path.{◌≡◌, sym, ◌∙◌}
use lib.Dec.{T}
use Rattle.code.specs.Instruction.{instruction_of}
use Rattle.code.specs.Words.{operands_fit, good_word}
use Rattle.code.specs.declared.Instruction.{Instruction}
use Rattle.code.proofs.WordLaws.{good_iff}

pub operands : (kind : ℕ → ℕ) (word : ℕ) → T (good_word kind word) → {read : Option Instruction} {instruction : Instruction} → read ≡ instruction_of word → read ≡ Some instruction
    → T (operands_fit kind instruction)
operands kind word good {read} {instruction} says is =
    let g = (good_iff kind word).0 good in
    let both : ◌≡◌ {A = Option Instruction} (Some instruction) (Some g.instruction) = sym is ∙ says ∙ g.says in
    let same : instruction ≡ g.instruction = cc in
    rw same g.operands
