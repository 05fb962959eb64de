-- A step takes at most one row and one name, so code never runs out where there are as many of each as it has words.
use mathlib.Core.Path.{◌≡◌}
use mathlib.Core.Logic.{◌≢◌}
use mathlib.Core.List.{List, [], ◌∷◌}
use Prim.Native.Nat.{ℕ, suc, ◌+◌, ◌≤◌}
use native.Mathlib.Omega.{arith}
use lib.Dec.{T}
use lib.ListN.{length, length-set}
use borrow.Author.Tests.{lt-ltb}
use Rattle.word.proofs.All.{All}
use Rattle.code.specs.Words.{operands_fit}
use Rattle.terms.specs.Shape.{atom}
use Rattle.terms.specs.Row.{row_of}
use Rattle.terms.specs.Finder.{locate}
use Rattle.terms.proofs.FinderLaws.{located_as}
use Rattle.theory.specs.Outcome.{done, room}
use Rattle.theory.specs.RowModel.{Table, with_counter, name, placed, row_model, row_world}
use Rattle.numbers.specs.Limits.{most_names}
use Rattle.theory.specs.Machine.{Line, State, exec}
use Rattle.theory.specs.TermModel.{term_world}
use Rattle.theory.proofs.Fitting.{ByteFits}
use Rattle.theory.proofs.Related.{SameEnd, same_end}
use Rattle.theory.proofs.RowsRunAsTerms.{Reads, rows_run_as_terms}
use Rattle.theory.proofs.Ends.{Any, Answers, gets, Ends, ends, overflows, ends_bind, answers_then}
use Rattle.theory.proofs.StepEnds.{Moves, step_ends}
use Rattle.theory.proofs.Models.{making_moves}

-- so many rows and so many names are free
abbrev pub Free : ℕ → ℕ → Table → Type 0
Free rows names x = (x.used + rows ≤ length x.rows) × (x.counter + names ≤ most_names)

-- a row is taken, or none
placed_free : (rows names : ℕ) (x : Table) (word : ℕ) → Free (suc rows) names x
    → Answers Any ⊥ (λ r. Free rows names r.1) (placed x (locate x.rows x.used word))
placed_free rows names x word free =
    located_as x.rows x.used word (omega arith) (λ l. Answers Any ⊥ (λ r. Free rows names r.1) (placed x l)) (λ row l e. gets (omega arith))
    (λ absent l. gets (rw length-set (omega arith), free.1)) (λ absent l. absurd (omega arith))

-- a name is taken
fresh_free : (rows names : ℕ) (x : Table) → Free rows (suc names) x → Answers Any ⊥ (λ r. Free rows names r.1) (name x.counter (with_counter x))
fresh_free rows names x free = rw (lt-ltb x.counter most_names (omega arith)) (gets {a = (x.counter, with_counter x (suc x.counter))} (omega arith))

-- one row and one name fewer are free after a step
moves_free : (n : ℕ) (x : Table) → Free (suc n) (suc n) x → Moves Any ⊥ row_world (Free n n) x
moves_free n x free = making_moves row_model (λ why own. tt)
    (record {
      left = omega arith;
      makes = λ shape. placed_free n n x (row_of shape) (omega arith);
      creates = λ kind. answers_then _ (fresh_free (suc n) n x free) λ r h. placed_free n n r.1 (row_of (atom kind r.0)) h;
    })

module _ (kind : ℕ → ℕ) where
  exec_free : (n : ℕ) (code : List Line) (s : State row_world) → Free (length code + n) (length code + n) s.stores.memory
      → Ends Any Any ⊥ (λ t. Free n n t.stores.memory) (exec row_world kind code s)
  exec_free n [] s free = ends {a = s} (omega (arith, free))
  exec_free n (l ∷ code) s free =
      ends_bind _ (step_ends tt kind l.place tt s (moves_free (length code + n) s.stores.memory (omega (arith, free))) l.instruction) λ t h.
      exec_free n code t h.memory

  -- what a finished run leaves free
  pub left_free : (n : ℕ) (code : List Line) (s t : State row_world) → Free (length code + n) (length code + n) s.stores.memory
      → exec row_world kind code s ≡ done t → Free n n t.stores.memory
  left_free n code s t free e = go (rw e at (exec_free n code s free))
    where
      go : Ends Any Any ⊥ (λ t. Free n n t.stores.memory) (done t) → Free n n t.stores.memory
      go (ends h) = h

  pub never_room : (code : List Line) (s : State row_world) → Free (length code) (length code) s.stores.memory
      → (place : ℕ) → exec row_world kind code s ≢ room place
  never_room code s free place e = go (rw e at (exec_free 0 code s (omega (arith, free))))
    where
      go : Ends Any Any ⊥ {A = State row_world} (λ t. Free 0 0 t.stores.memory) (room place) → ⊥
      go (overflows _ f) = f

  -- then rows and terms have the same end
  pub rows_end_as_terms : (code : List Line) (s : State row_world) (t : State term_world)
      → All (λ l. T (operands_fit kind l.instruction) × ByteFits l.instruction) code → Reads kind s t
      → Free (length code) (length code) s.stores.memory → SameEnd (Reads kind) (exec row_world kind code s) (exec term_world kind code t)
  rows_end_as_terms code s t good reads free = same_end (rows_run_as_terms kind code s t good reads) (never_room code s free)
