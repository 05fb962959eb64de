-- What the paper claims, and what the product leans on: each theorem once, each proved by citing where it is shown.
use mathlib.Core.Path.{◌≡◌}
use mathlib.Core.Bool.{true, false}
use Rattle.std.specs.Prelude.{Option, Some}
use mathlib.Core.List.{List}
use Prim.Native.Nat.{ℕ, ◌≤◌}
use lib.Dec.{T}
use lib.ListN.{length}
use Rattle.word.proofs.All.{All}
use Rattle.answers.specs.Numbers.{reason_number}
use Rattle.answers.specs.declared.Reason.TheVariants.{Unset}
use Rattle.code.specs.Words.{operands_fit}
use Rattle.patterns.specs.Pattern.{Pattern, size, RawsBelow, Packed}
use Rattle.patterns.specs.Kinds.{RightKinds}
use Rattle.theory.specs.Outcome.{done, stuck, room, bind}
use Rattle.theory.specs.World.{World}
use Rattle.theory.specs.RowModel.{row_world}
use Rattle.theory.specs.TermModel.{Term, term_world}
use Rattle.theory.specs.Machine.{Line, Stores, State, exec}
use Rattle.theory.specs.Emission.{Env, ok, refuse}
use Rattle.theory.specs.Compilers.{compile↓, compile↑}
use Rattle.theory.specs.Rules.{Made, match, create}
use Rattle.theory.specs.Figure2.{TermStores, Matches}
use Rattle.theory.specs.Figure3.{Creates}
use Rattle.theory.proofs.Compiled.{known, known_from, stores_of, message_of, made_of, Keeps, matching_runs, matching_refused, matching_keeps, matching_scratch_free, matching_reads_set, creating_runs, creating_refused, creating_keeps, creating_scratch_free, creating_reads_set}
use Rattle.theory.proofs.Models.{calm_rows}
use Rattle.theory.proofs.MatchingRules.{matches_is_done, done_is_matches, matches_once}
use Rattle.theory.proofs.CreatingRules.{creates_is_done, done_is_creates, creates_once}
use Rattle.theory.specs.Bounds.{InLimits}
use Rattle.theory.proofs.InLimits.{matching_in_limits, creating_in_limits}
use Rattle.theory.proofs.Fitting.{ByteFits}
use Rattle.theory.proofs.Related.{OutcomeR}
use Rattle.theory.proofs.RowsRunAsTerms.{Reads, rows_run_as_terms}
use Rattle.theory.proofs.Room.{Free, never_room}

-- Over any world, for a pattern whose raw variables are named cells.
module _ (W : World) (kind : ℕ → ℕ) (p : Pattern) (below : RawsBelow 64 p) where
  -- Theorem 1. The run of the code for matching ends as the rules do, from any state with the set cells that it was compiled for:
  -- done with the same stores, stuck for the same reason at the same row, or out of room at the same row.
  pub matching : (s : State W) {c : List Line} {e : Env} → compile↓ p (known W s.stores) ≡ ok c e
      → bind (exec W kind c s) (stores_of W) ≡ match W kind p s.accumulator s.stores
  matching s = matching_runs W kind p below s

  -- Theorem 2. The same for creating, with the message.
  pub creating : (s : State W) {c : List Line} {e : Env} → compile↑ kind p (known W s.stores) ≡ ok c e
      → bind (exec W kind c s) (message_of W) ≡ bind (create W kind p s.stores) (made_of W)
  creating s = creating_runs W kind p below s

  -- Refused with 6 or 7: the rules are never done, whatever the set cells hold.
  pub refused_matching : (n : Stores W) {answer : _} → compile↓ p (known W n) ≡ refuse answer → (m : Option W.Msg) (t : Stores W) → match W kind p m n ≡ done t → ⊥
  refused_matching n q = matching_refused W kind p below n q

  pub refused_creating : (n : Stores W) {answer : _} → compile↑ kind p (known W n) ≡ refuse answer → (b : Made W kind) → create W kind p n ≡ done b → ⊥
  refused_creating n q = creating_refused W kind p below n q

  -- A variable that was set keeps its value, and scratch below the first number taken is untouched.
  pub kept_matching : (b : ℕ) (s t : State W) {c : List Line} {e : Env} → compile↓ p (known_from W b s.stores) ≡ ok c e → exec W kind c s ≡ done t → Keeps W b s t
  kept_matching b s t q r = matching_keeps W kind p below b s t q r

  pub kept_creating : (b : ℕ) (s t : State W) {c : List Line} {e : Env} → compile↑ kind p (known_from W b s.stores) ≡ ok c e → exec W kind c s ≡ done t → Keeps W b s t
  kept_creating b s t q r = creating_keeps W kind p below b s t q r

  -- What scratch held on entry does not matter.
  pub scratch_free_matching : (s t : State W) {c : List Line} {e : Env} → s.accumulator ≡ t.accumulator → s.stores ≡ t.stores
      → compile↓ p (known W s.stores) ≡ ok c e → bind (exec W kind c s) (stores_of W) ≡ bind (exec W kind c t) (stores_of W)
  scratch_free_matching s t a n q = matching_scratch_free W kind p below s t a n q

  pub scratch_free_creating : (s t : State W) {c : List Line} {e : Env} → s.stores ≡ t.stores
      → compile↑ kind p (known W s.stores) ≡ ok c e → bind (exec W kind c s) (message_of W) ≡ bind (exec W kind c t) (message_of W)
  scratch_free_creating s t n q = creating_scratch_free W kind p below s t n q

-- Compiled code never reads a cell that is unset: for matching where the accumulator is set, for creating always.
pub reads_set_matching : (kind : ℕ → ℕ) (p : Pattern) → RawsBelow 64 p → (s : State row_world) (m : ℕ) {c : List Line} {e : Env}
    → s.accumulator ≡ Some m → compile↓ p (known row_world s.stores) ≡ ok c e → (place : ℕ) → exec row_world kind c s ≡ stuck place (reason_number Unset) → ⊥
reads_set_matching kind p below s m set q = matching_reads_set row_world kind p below calm_rows s m set q

pub reads_set_creating : (kind : ℕ → ℕ) (p : Pattern) → RawsBelow 64 p → (s : State row_world) {c : List Line} {e : Env}
    → compile↑ kind p (known row_world s.stores) ≡ ok c e → (place : ℕ) → exec row_world kind c s ≡ stuck place (reason_number Unset) → ⊥
reads_set_creating kind p below s q = creating_reads_set row_world kind p below calm_rows s q

-- The rules' functions are the figures' relations, for patterns whose kinds are right.
module _ (kind : ℕ → ℕ) where
  pub figure2_then_match : {n n' : TermStores} {p : Pattern} {m : Term} → RightKinds false kind p → Matches kind n p m n' → match term_world kind p (Some m) n ≡ done n'
  figure2_then_match right h = matches_is_done kind right h

  pub match_then_figure2 : (p : Pattern) (n n' : TermStores) (m : Term) → RightKinds false kind p → match term_world kind p (Some m) n ≡ done n' → Matches kind n p m n'
  match_then_figure2 p n n' m right h = done_is_matches kind p n n' m right h

  pub figure3_then_create : {n n' : TermStores} {p : Pattern} {m : Term} → RightKinds true kind p → Creates kind n p m n' → create term_world kind p n ≡ done (m, n')
  figure3_then_create right h = creates_is_done kind right h

  pub create_then_figure3 : (p : Pattern) (n n' : TermStores) (m : Term) → RightKinds true kind p → create term_world kind p n ≡ done (m, n') → Creates kind n p m n'
  create_then_figure3 p n n' m right h = done_is_creates kind p n n' m right h

  -- The figures give at most one end.
  pub figure2_once : {n n₁ n₂ : TermStores} {p : Pattern} {m : Term} → RightKinds false kind p → Matches kind n p m n₁ → Matches kind n p m n₂ → n₁ ≡ n₂
  figure2_once right one other = matches_once kind right one other

  pub figure3_once : {n n₁ n₂ : TermStores} {p : Pattern} {m₁ m₂ : Term} → RightKinds true kind p → Creates kind n p m₁ n₁ → Creates kind n p m₂ n₂
      → (m₁ ≡ m₂) × (n₁ ≡ n₂)
  figure3_once right one other = creates_once kind right one other

  -- The same code on rows and on what they mean ends the same, unless the rows run out of room; a finished run leaves a valid state.
  pub rows_as_terms : (code : List Line) (s : State row_world) (t : State term_world)
      → All (λ l. T (operands_fit kind l.instruction) × ByteFits l.instruction) code → Reads kind s t
      → OutcomeR (Reads kind) (exec row_world kind code s) (exec term_world kind code t)
  rows_as_terms code s t fit reads = rows_run_as_terms kind code s t fit reads

  -- With as many free rows and free names as code words a run is never out of room.
  pub room_enough : (code : List Line) (s : State row_world) → Free (length code) (length code) s.stores.memory → (place : ℕ) → exec row_world kind code s ≡ room place → ⊥
  room_enough code s free place = never_room kind code s free place

  -- With at most 96 rows at most 767 words, no cell above 254, and every word passes run's check; a variable past the kinds is undeclared.
  pub limits_matching : ((v : ℕ) → 64 ≤ v → kind v ≡ 0) → (p : Pattern) (e e' : Env) (c : List Line)
      → RightKinds false kind p → RawsBelow 64 p → Packed p → size p ≤ 96 → e.next ≡ 0 → compile↓ p e ≡ ok c e' → InLimits kind c e'
  limits_matching declared = matching_in_limits kind declared

  pub limits_creating : ((v : ℕ) → 64 ≤ v → kind v ≡ 0) → (p : Pattern) (e e' : Env) (c : List Line)
      → RightKinds true kind p → RawsBelow 64 p → Packed p → size p ≤ 96 → e.next ≡ 0 → compile↑ kind p e ≡ ok c e' → InLimits kind c e'
  limits_creating declared = creating_in_limits kind declared
