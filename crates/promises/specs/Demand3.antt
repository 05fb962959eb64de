-- Demand 3: the run of compiled code is the rules of figures 2 and 3.
use Rattle.std.specs.Prelude.{ℕ, ◌≡◌, ◌↔◌, ◌≢◌, ◌⊎◌, Bool, true, false, List, length, take, get_or}
use Rattle.std.specs.Prelude.{None, Some}
use Rattle.answers.specs.Numbers.{ran_reason}
use Rattle.stores.specs.Cells.{unset}
use Rattle.patterns.specs.Tree.{pattern_of}
use Rattle.theory.specs.TermModel.{Term}
use Rattle.numbers.specs.Limits.{named_cells}
use Rattle.theory.specs.Figure2.{TermStores, Matches}
use Rattle.theory.specs.Figure3.{Creates}
use Rattle.calls.specs.Compile.{SameSet, CompileOutcome, compiled_code, compile}
use Rattle.numbers.specs.Kinds.{kind_in}
use Rattle.calls.specs.Run.{Lent, lent_after, run}
use Rattle.promises.specs.Answers.{RunAnswers, compile_number, run_number}
use Rattle.promises.specs.Reading.{before, after, message_before, message_after}
use Rattle.promises.specs.Conditions.{Valid, Room}

-- Code that compile answered with 0, for cells of which the same are set as of those that run is lent.
pub record CodeFor (create : Bool) (pattern : List ℕ) (x : Lent) (code : List ℕ) : Type 0 where
  pub objects : List ℕ
  pub named : List ℕ
  pub slice : List ℕ
  pub done : compile_number (compile create pattern x.kinds objects named slice) ≡ 0
  pub part : compiled_code (compile create pattern x.kinds objects named slice) ≡ code
  pub same_objects : SameSet objects x.objects
  pub same_named : SameSet named (take named_cells x.messages)

-- Such code, valid stores, and as many free rows and names as code words.
pub record Prepared (create : Bool) (pattern : List ℕ) (x : Lent) (code : List ℕ) : Type 0 where
  pub compiled : CodeFor create pattern x code
  pub valid : Valid x
  pub room : Room x (length code)

-- Figure 2 between what the stores mean before and some stores; figure 3 with a message besides.
abbrev pub MatchesTo : List ℕ → Lent → Term → TermStores → Type 0
MatchesTo pattern x m n = Matches (kind_in x.kinds) (before x) (pattern_of pattern) m n

abbrev pub CreatesTo : List ℕ → Lent → Term → TermStores → Type 0
CreatesTo pattern x m n = Creates (kind_in x.kinds) (before x) (pattern_of pattern) m n

-- The run finishes exactly where figure 2 leads from the stores and the message m to some stores, and leaves those;
-- it is stuck exactly where figure 2 leads to none; it is never out of room.
pub record DecidesMatch (pattern : List ℕ) (x : Lent) (code : List ℕ) (m : Term) : Type 0 where
  pub finishes : (n : TermStores) → MatchesTo pattern x m n ↔ (RunAnswers (run x code) 0 (length code) 0 × (after x (run x code) ≡ n))
  pub stuck : (run_number (run x code) ≡ 10) ↔ ((n : TermStores) → MatchesTo pattern x m n → ⊥)
  pub room : run_number (run x code) ≢ 11

-- The same for figure 3, with the message in the accumulator; the name counter is among the stores.
pub record DecidesCreation (pattern : List ℕ) (x : Lent) (code : List ℕ) : Type 0 where
  pub finishes : (m : Term) (n : TermStores)
      → CreatesTo pattern x m n ↔ (RunAnswers (run x code) 0 (length code) 0 × (message_after (run x code) ≡ Some m) × (after x (run x code) ≡ n))
  pub stuck : (run_number (run x code) ≡ 10) ↔ ((m : Term) (n : TermStores) → CreatesTo pattern x m n → ⊥)
  pub room : run_number (run x code) ≢ 11

-- Terms in exactly the cells that are set.
pub record SetAs (objects named : List ℕ) (n : TermStores) : Type 0 where
  pub object_cells : (v : ℕ) → (n.σ v ≡ None) ↔ (get_or objects v unset ≡ unset)
  pub named_cells_lem : (r : ℕ) → (n.ρ r ≡ None) ↔ (get_or named r unset ≡ unset)

-- 6 or 7
abbrev pub Refused : CompileOutcome → Type 0
Refused o = (compile_number o ≡ 6) ⊎ (compile_number o ≡ 7)

pub record Demand3 : Type 0 where
  pub matching : {pattern code : List ℕ} {x : Lent} {m : Term} → Prepared false pattern x code → message_before x ≡ Some m → DecidesMatch pattern x code m
  pub creating : {pattern code : List ℕ} {x : Lent} → Prepared true pattern x code → DecidesCreation pattern x code
  -- a pattern refused with 6 or 7 has no match or creation from any stores with those set cells
  pub refused_matching : (pattern kinds objects named slice : List ℕ) → Refused (compile false pattern kinds objects named slice)
      → {n n' : TermStores} {m : Term} → SetAs objects named n → Matches (kind_in kinds) n (pattern_of pattern) m n' → ⊥
  pub refused_creating : (pattern kinds objects named slice : List ℕ) → Refused (compile true pattern kinds objects named slice)
      → {n n' : TermStores} {m : Term} → SetAs objects named n → Creates (kind_in kinds) n (pattern_of pattern) m n' → ⊥
  -- after a finished run of any code what was lent is valid again
  pub valid_again : (x : Lent) (code : List ℕ) → run_number (run x code) ≡ 0 → Valid (lent_after x (run x code))
  -- compiled code never reads what is unset: in a match with a set accumulator, in a creation always
  pub reads_matching : {pattern code : List ℕ} {x : Lent} {m : Term} → CodeFor false pattern x code → message_before x ≡ Some m → ran_reason (run x code).answer ≢ 1
  pub reads_creating : {pattern code : List ℕ} {x : Lent} → CodeFor true pattern x code → ran_reason (run x code).answer ≢ 1
