-- Figure 2 at a row of a pattern.
use Rattle.std.specs.Prelude.{ℕ, ◌≡◌, List, length}
use Rattle.numbers.specs.Limits.{variables, named_cells}
use Rattle.patterns.specs.Pattern.{Pattern}
use Rattle.patterns.specs.Standing.{pattern_in}
use Rattle.stores.specs.Cells.{held}
use Rattle.theory.specs.Outcome.{Outcome}
use Rattle.theory.specs.RowModel.{row_world}
use Rattle.theory.specs.Machine.{Stores}
use Rattle.theory.specs.Rules.{match}
use Rattle.machine.specs.Machine.{Slices, Within}
use Rattle.walks.specs.Walks.{Walked, stores_at, Comes, stores_alone}
use Rattle.walks.specs.declared.Walk.{Walk}

-- a cell for every variable, and the used rows within the table
pub record WalkReady (used : ℕ) (x : Slices) : Type 0 where
  pub objects : length x.objects ≡ variables
  pub named : length x.messages ≡ named_cells
  pub within : Within x.rows used

-- a pattern against the message in hand
abbrev pub meets : (ℕ → ℕ) → Pattern → Walk → Stores row_world → Outcome (Stores row_world)
meets kind pattern w n = match row_world kind pattern (held w.message.0) n

-- the pattern of a row
abbrev pub WalkMatches : List ℕ → (ℕ → ℕ) → ℕ → Walk → Slices → Walked → Slices → Type 0
WalkMatches rows kind row w before answer after = Comes stores_alone w.used before (meets kind (pattern_in rows row) w (stores_at w before)) answer after
