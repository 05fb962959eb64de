-- The walk over the pattern of a row, and what is lent to it.
use Rattle.std.specs.Prelude.{ℕ, ◌≡◌, Bool, true, false, List}
use Rattle.std.specs.Prelude.{None}
use Rattle.answers.specs.First.{first}
use Rattle.answers.specs.declared.direct.Direct.{Direct}
use Rattle.numbers.specs.Kinds.{kind_in}
use Rattle.patterns.specs.Pattern.{Pattern}
use Rattle.patterns.specs.Standing.{pattern_in}
use Rattle.terms.specs.Rules.{used_rows}
use Rattle.theory.specs.Outcome.{Outcome, done, bind}
use Rattle.theory.specs.RowModel.{row_world}
use Rattle.theory.specs.Machine.{Stores}
use Rattle.calls.specs.Run.{Lent}
use Rattle.calls.specs.Direct.{DirectOutcome, direct_ends, ruled}
use Rattle.calls.specs.CompileThenRun.{handed_back}
use Rattle.machine.specs.Machine.{Slices}
use Rattle.walks.specs.Walks.{Walked, stores_at, Comes}
use Rattle.walks.specs.declared.Walk.{Walk}
use Rattle.walks.specs.declared.Ended.{Ended}
use Rattle.walks.specs.declared.Ended.TheVariants.{Stuck, NoRoom}
use Rattle.leaf_matching.specs.Matched.{meets}
use Rattle.walk_leaves.specs.Creation.{creation}
use Rattle.engine.specs.Found.{direct_refusals}

-- what is seen of a walk: the message that is handed back, and the stores
abbrev pub handed : Bool → ℕ → ℕ → Stores row_world → ℕ × Stores row_world
handed create given m n = (handed_back create given m, n)

-- figure 3 for creating, figure 2 for matching
abbrev pub walk_rule : Bool → List ℕ → Pattern → Walk → Stores row_world → Outcome (ℕ × Stores row_world)
walk_rule true kinds p w n = creation kinds p n
walk_rule false kinds p w n = bind (meets (kind_in kinds) p w n) λ n. done (w.message.0, n)

abbrev pub WalksRow : Bool → List ℕ → List ℕ → ℕ → Walk → Slices → Walked → Slices → Type 0
WalksRow create rows kinds row w before answer after =
    Comes (handed create w.message.0) w.used before (walk_rule create kinds (pattern_in rows row) w (stores_at w before)) answer after

-- how a walk has ended, as the engine answers it
abbrev pub ended_as : Ended → Direct
ended_as (Stuck row reason) = Direct.Stuck row reason
ended_as (NoRoom row) = Direct.NoRoom row

-- nothing was refused, and the used rows are counted
pub record Walkable (create : Bool) (pattern : List ℕ) (x : Lent) (used : ℕ) : Type 0 where
  pub passes : first (direct_refusals create pattern x) ≡ None
  pub counted : used ≡ used_rows x.terms

-- what the rules give from the root
abbrev pub walked_from : Bool → List ℕ → Lent → DirectOutcome
walked_from create pattern x = direct_ends x (ruled create pattern x create)
