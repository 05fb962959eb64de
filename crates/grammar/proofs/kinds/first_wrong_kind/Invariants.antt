use Prim.Native.Nat.{ℕ}
use mathlib.Core.Bool.{Bool, not}
use mathlib.Core.List.{List}
use lib.ListN.{get_or}
use Rattle.word.proofs.ScanLaws.{Left}
use Rattle.patterns.specs.Row.{pattern_fields}
use Rattle.patterns.specs.RowKinds.{row_kinds}
use Rattle.grammar.proofs.kinds.first_wrong_kind.Given as goal

abbrev pub wrong : Bool → List ℕ → ℕ → ℕ → Bool
wrong create kinds place word = not (row_kinds create (λ v. get_or kinds v 0) (pattern_fields word))

abbrev pub invariant-loop-place : goal.invariant-loop-place
invariant-loop-place l = Left (wrong l.create l.kinds) l.rows l.place
