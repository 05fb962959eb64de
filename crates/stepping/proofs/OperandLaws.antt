-- What check 9 gives of an instruction's operands, and a method's step as the instruction's.
use Prim.Native.Nat.{ℕ, ◌<◌}
use mathlib.Core.Path.{◌≡◌}
use mathlib.Core.List.{[], ◌∷◌}
use native.Mathlib.Omega.{arith}
use lib.Dec.{T, ltb}
use Rattle.word.specs.Lowest.{one_of}
use Rattle.word.proofs.TestLaws.{both}
use Rattle.word.proofs.LowestLaws.{one_all}
use Rattle.code.specs.Words.{operands_fit}
use Rattle.numbers.specs.declared.Object.{Object}
use Rattle.code.specs.declared.Instruction.{Instruction}
use Rattle.code.specs.declared.Instruction.TheVariants.{Create}
use Rattle.theory.specs.RowModel.{row_world}
use Rattle.theory.specs.Machine.{step}
use Rattle.machine.specs.Machine.{Slices, Answered, state_at, Agrees, DoesStep}
use Rattle.machine.specs.declared.Registers.{Registers}

creatable_small : (kind : ℕ) → T (one_of (2 ∷ 5 ∷ 6 ∷ []) kind) → kind < 16
creatable_small kind one = one_all (λ n. n < 16) (2 ∷ 5 ∷ 6 ∷ []) kind (omega arith) one

-- a name is created of a kind that fits its word
pub create_kind : (kind : ℕ → ℕ) (instruction : Instruction) → T (operands_fit kind instruction) → (v : Object) → instruction ≡ Create v → kind v.0 < 16
create_kind kind instruction fits v e = creatable_small (kind v.0) ((both (ltb v.0 64) (one_of (2 ∷ 5 ∷ 6 ∷ []) (kind v.0))).0 (rw e at fits)).1

-- a method that does the step of the instruction at hand
pub stepped : (kind : ℕ → ℕ) (g : Registers) (before after : Slices → Slices) {answer : Answered} (x y : Slices) {i i' : Instruction} → i ≡ i'
    → DoesStep kind i' g before answer after → before x ≡ x → after x ≡ y → Agrees x (step row_world kind g.place i (state_at g x)) answer y
stepped kind g before after x y e does b a = rw (e, ← a) (rw b at (does x))

-- the same of a method that looks at no kind
pub stepped_alike : (kind : ℕ → ℕ) (g : Registers) (before after : Slices → Slices) {answer : Answered} (x y : Slices) {i i' : Instruction} → i ≡ i'
    → ((kind : ℕ → ℕ) → DoesStep kind i' g before answer after) → before x ≡ x → after x ≡ y → Agrees x (step row_world kind g.place i (state_at g x)) answer y
stepped_alike kind g before after x y e does b a = stepped kind g before after x y e (does kind) b a
