-- A walk creates the message of a pattern.
use Rattle.std.specs.Prelude.{ℕ, List}
use Rattle.numbers.specs.Kinds.{kind_in}
use Rattle.patterns.specs.Pattern.{Pattern}
use Rattle.theory.specs.Outcome.{Outcome}
use Rattle.theory.specs.RowModel.{row_world}
use Rattle.theory.specs.Machine.{Stores}
use Rattle.theory.specs.Rules.{create}
use Rattle.machine.specs.Machine.{Slices}
use Rattle.walks.specs.Walks.{Walked, stores_at, Comes, message_and_stores}
use Rattle.walks.specs.declared.Walk.{Walk}

-- figure 3 at rows
unfoldable pub creation : List ℕ → Pattern → Stores row_world → Outcome (ℕ × Stores row_world)
creation kinds p n = create row_world (kind_in kinds) p n

abbrev pub CreatesBy : List ℕ → Pattern → Walk → Slices → Walked → Slices → Type 0
CreatesBy kinds p w before answer after = Comes message_and_stores w.used before (creation kinds p (stores_at w before)) answer after
