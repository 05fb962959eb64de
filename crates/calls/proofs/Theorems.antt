-- What the product leans on, for what is lent: each theorem once, each proved by citing where it is shown.
use mathlib.Core.Path.{◌≡◌}
use mathlib.Core.Bool.{Bool, true, false}
use Rattle.std.specs.Prelude.{Some}
use mathlib.Core.List.{List}
use Prim.Native.Nat.{ℕ}
use lib.ListN.{length}
use Rattle.answers.specs.declared.Compiled.TheVariants.{Done}
use Rattle.answers.specs.declared.Ran.{Ran}
use Rattle.stores.specs.Cells.{held}
use Rattle.patterns.specs.Tree.{pattern_of}
use Rattle.theory.specs.RowModel.{row_world}
use Rattle.theory.specs.Machine.{State}
use Rattle.theory.specs.Rules.{create}
use Rattle.calls.specs.Compile.{SameSet, compile}
use Rattle.numbers.specs.Kinds.{kind_in}
use Rattle.calls.specs.Run.{Lent, lent_after, state_of, left_by, run}
use Rattle.calls.proofs.SetCells.{SameCode, same_cells, same_slices}
use Rattle.theory.proofs.RowsRunAsTerms.{ValidState}
use Rattle.theory.proofs.Room.{Free}
use Rattle.theory.specs.Meaning.{meaning}
use Rattle.theory.proofs.RowsKept.{Appended}
use Rattle.calls.specs.Valid.{Valid}
use Rattle.calls.proofs.ValidAgain.{stays_valid}
use Rattle.calls.proofs.Demand3.{compiled_for, code_for, MatchEnds, CreateEnds, matching_demand, creating_demand}

-- Compile depends on nothing but direction, pattern, kinds and which cells are set, and of the code slice on its length.
pub sees_set_cells : (create : Bool) (pattern kinds objects objects' named named' code : List ℕ) → SameSet objects objects' → SameSet named named'
    → compile create pattern kinds objects named code ≡ compile create pattern kinds objects' named' code
sees_set_cells create pattern kinds = same_cells create pattern kinds

pub sees_slice_length : (create : Bool) (pattern kinds objects named code code' : List ℕ) → length code ≡ length code'
    → SameCode code code' (compile create pattern kinds objects named code) (compile create pattern kinds objects named code')
sees_slice_length create pattern kinds = same_slices create pattern kinds

-- Demand 3, from packed words to the figures, for what is lent and good and as many free rows and names as code words: the run of the words that compile wrote
-- finishes with stores (and message and counter) that the figures give, and gets stuck only where they give nothing. It is never out of room.
pub demand_3_matching : (pattern slice : List ℕ) (x : Lent) → Valid x → (words row : ℕ) → held x.accumulator ≡ Some row
    → (compiled_for x false pattern slice).answer ≡ Done words → Free words words (state_of x).stores.memory
    → MatchEnds x (pattern_of pattern) (meaning x.terms row) words (code_for x false pattern slice words) (run x (code_for x false pattern slice words))
demand_3_matching = matching_demand

pub demand_3_creating : (pattern slice : List ℕ) (x : Lent) → Valid x → (words : ℕ)
    → (compiled_for x true pattern slice).answer ≡ Done words → Free words words (state_of x).stores.memory
    → CreateEnds x (pattern_of pattern) words (code_for x true pattern slice words) (run x (code_for x true pattern slice words))
demand_3_creating = creating_demand

-- After a finished run what was lent is good again.
pub valid_again : (x : Lent) (a : Valid x) (t : State row_world) → ValidState (kind_in x.kinds) t → Appended (state_of x).stores.memory t.stores.memory
    → (answer : Ran) → Valid (lent_after x (left_by answer t))
valid_again = stays_valid
