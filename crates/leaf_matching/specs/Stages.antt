-- The rules of a match, a stage at a time.
use Rattle.std.specs.Prelude.{ℕ, ◌≤◌, ◌≡◌, List, length, Ok}
use Rattle.std.specs.Prelude.{Option}
use Rattle.patterns.specs.Pattern.{Key, plain_key, op_key, certified_key}
use Rattle.theory.specs.Outcome.{Outcome, done, bind, at, need}
use Rattle.theory.specs.World.{Op, op, verify}
use Rattle.theory.specs.RowModel.{row_world}
use Rattle.theory.specs.Machine.{Stores, set_memory}
use Rattle.theory.specs.Rules.{makes, made, create_key}
use Rattle.machine.specs.Machine.{Slices, Within}
use Rattle.walks.specs.Walks.{Walked, stores_at, Comes, message_and_stores}
use Rattle.walks.specs.declared.Walk.{Walk}

-- a function that sees no rows walks by a rule where the used rows are within the table
pub record WalksInside {A : Type 0} (seen : ℕ → Stores row_world → A) (rule : Stores row_world → Outcome A) (w : Walk) (before : Slices → Slices) (answer : Walked) (after : Slices
    → Slices) : Type 0 where
  pub walks : (x : Slices) → w.used ≤ length x.rows → Comes seen w.used (before x) (rule (stores_at w (before x))) answer (after x)

-- a walk that came to a message goes on by a rule; one that ended stays so
pub record GoesOnBy {B : Type 0} (later : ℕ → Stores row_world → B) (rule : ℕ × Stores row_world → Outcome B) (came : Walked) (mid : Slices → Slices) (answer : Walked) (after : Slices
    → Slices) : Type 0 where
  pub walks : (x before : Slices) (used : ℕ) (o : Outcome (ℕ × Stores row_world)) → Comes message_and_stores used before o came (mid x) → Comes later used before (bind o rule) answer (after x)

-- a walk that goes on has its used rows within the table
pub record Inside (rows : List ℕ) (came : Walked) : Type 0 where
  pub within : (w : Walk) → came ≡ Ok w → Within rows w.used

-- what is made of a cell's term comes into hand
abbrev pub asked : ℕ → (Stores row_world → Option ℕ) → (ℕ → Op ℕ) → Stores row_world → Outcome (ℕ × Stores row_world)
asked row cell o n = bind (need row (cell n)) λ a. bind (at row (row_world.apply (o a) n.memory)) λ r. done (r.0, set_memory row_world n r.1)

-- the key of k : op(K), and that of a matched S, with the stores after it
abbrev pub opposed : (ℕ → ℕ) → ℕ → ℕ → ℕ → Stores row_world → Outcome (ℕ × Stores row_world)
opposed kind row k K n = bind (need row (n.σ K)) λ a. makes row_world kind row k (op a) n (made row_world kind)

abbrev pub keyed : (ℕ → ℕ) → ℕ → Key → Stores row_world → Outcome (ℕ × Stores row_world)
keyed kind row (plain_key v) n = bind (need row (n.σ v)) λ k. done (k, n)
keyed kind row (op_key k K) n = opposed kind row k K n
keyed kind row (certified_key k a) n = create_key row_world kind row (certified_key k a) n

-- a key verifies a signature of what r holds
abbrev pub verifies : ℕ → ℕ → ℕ → ℕ × Stores row_world → Outcome (Stores row_world)
verifies row r signature m = bind (need row (m.1.ρ r)) λ b. bind (at row (row_world.test (verify m.0 b signature) m.1.memory)) λ _. done m.1
