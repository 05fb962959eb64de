-- The machine on rows does what the machine on terms does with what the rows mean, and leaves valid stores.
use mathlib.Core.Path.{◌≡◌, refl, sym, ◌∙◌, ap}
use Rattle.std.specs.Prelude.{Option, None, Some}
use Rattle.std.specs.Option.{option_map}
use mathlib.Core.List.{List}
use Prim.Native.Nat.{ℕ, ◌<◌}
use lib.Dec.{T}
use lib.ListN.{get_or}
use Rattle.word.proofs.All.{All, all_map}
use Rattle.code.specs.Words.{operands_fit}
use Rattle.terms.specs.Row.{tag_of}
use Rattle.theory.specs.RowModel.{Table, row_model, row_world}
use Rattle.theory.specs.TermModel.{Term, term_model, term_world}
use Rattle.theory.specs.Machine.{Line, State, exec}
use Rattle.theory.proofs.Fitting.{ByteFits, fits}
use Rattle.theory.proofs.Related.{CellR, unset, set, OutcomeR, outcome_map}
use Rattle.theory.proofs.Refinement.{ObjectR, StateR, exec_related}
use Rattle.theory.proofs.ModelRefinement.{worlds_refine}
use Rattle.theory.specs.Meaning.{meaning}
use Rattle.theory.proofs.ValidMemory.{ValidMemory}
use Rattle.theory.proofs.RowsAreTerms.{names_of, Means, rows_read, rows_are_terms, tag_means}

-- what a set cell has to be
abbrev pub Held : {A : Type 0} → (A → Type 0) → Option A → Type 0
Held P None = Unit {0}
Held P (Some a) = P a

abbrev pub IsUsed : Table → ℕ → Type 0
IsUsed x row = row < x.used

abbrev pub HasTag : Table → ℕ → ℕ → Type 0
HasTag x tag row = IsUsed x row × (tag_of (get_or x.rows row 0) ≡ tag)

-- stores that run accepts: a valid table, cells of used rows, and objects of their variables' kinds
pub record ValidState (kind : ℕ → ℕ) (s : State row_world) : Type 0 where
  pub table : ValidMemory s.stores.memory
  pub accumulator : Held (IsUsed s.stores.memory) s.accumulator
  pub scratches : (i : ℕ) → Held (IsUsed s.stores.memory) (s.scratches i)
  pub raws : (r : ℕ) → Held (IsUsed s.stores.memory) (s.stores.ρ r)
  pub objects : (v : ℕ) → Held (HasTag s.stores.memory (kind v)) (s.stores.σ v)

-- rows read as terms
abbrev pub terms_of : State row_world → State term_world
terms_of s =
    let means = meaning s.stores.memory.rows in
    record {
      accumulator = option_map means s.accumulator;
      scratches = λ i. option_map means (s.scratches i);
      stores = record { σ = λ v. option_map means (s.stores.σ v); ρ = λ r. option_map means (s.stores.ρ r); memory = names_of s.stores.memory };
    }

abbrev pub Reads : (ℕ → ℕ) → State row_world → State term_world → Type 0
Reads kind s t = ValidState kind s × (t ≡ terms_of s)

-- a cell that is read by a function
module _ {A B : Type 0} (P : A → Type 0) (R : A → B → Type 0) (g : A → B) where
  cell_read : ((a : A) → P a → R a (g a)) → (cell : Option A) → Held P cell → CellR R cell (option_map g cell)
  cell_read reads None held = unset
  cell_read reads (Some a) held = set (reads a held)

  read_cell : ((a : A) (b : B) → R a b → P a × (b ≡ g a)) → {cell : Option A} {other : Option B} → CellR R cell other
      → Held P cell × (other ≡ option_map g cell)
  read_cell reads unset = (tt, refl)
  read_cell reads (set r) = let h = reads _ _ r in (h.0, ap Some h.1)

module _ (kind : ℕ → ℕ) where
  state_related : (s : State row_world) → ValidState kind s → StateR rows_read kind s (terms_of s)
  state_related s v =
      record {
        good = (v.table, refl);
        accumulators = cell s.accumulator v.accumulator;
        scratch_cells = λ i. cell (s.scratches i) (v.scratches i);
        objects = λ o. object o (s.stores.σ o) (v.objects o);
        raws = λ r. cell (s.stores.ρ r) (v.raws r);
      }
    where
      x : Table
      x = s.stores.memory

      cell : (cell : Option ℕ) → Held (IsUsed x) cell → CellR (Means x) cell (option_map (meaning x.rows) cell)
      cell = cell_read (IsUsed x) (Means x) (meaning x.rows) λ row used. (used, refl)

      object : (o : ℕ) (cell : Option ℕ) → Held (HasTag x (kind o)) cell → CellR (ObjectR rows_read kind s o) cell (option_map (meaning x.rows) cell)
      object o =
          cell_read (HasTag x (kind o)) (ObjectR rows_read kind s o) (meaning x.rows) λ row has.
          ((has.0, refl), sym (tag_means v.table row (meaning x.rows row) (has.0, refl)) ∙ has.1)

  related_state : (s : State row_world) (t : State term_world) → StateR rows_read kind s t → Reads kind s t
  related_state s t r = (
    record {
      table = r.good.0;
      accumulator = (cell r.accumulators).0;
      scratches = λ i. (cell (r.scratch_cells i)).0;
      raws = λ i. (cell (r.raws i)).0;
      objects = λ v. (object v (r.objects v)).0;
    },
    λ i. record {
      accumulator = (cell r.accumulators).1 i;
      scratches = λ n. (cell (r.scratch_cells n)).1 i;
      stores = record { σ = λ v. (object v (r.objects v)).1 i; ρ = λ n. (cell (r.raws n)).1 i; memory = r.good.1 i };
    },
  )
    where
      x : Table
      x = s.stores.memory

      cell : {cell : Option ℕ} {other : Option Term} → CellR (Means x) cell other → Held (IsUsed x) cell × (other ≡ option_map (meaning x.rows) cell)
      cell = read_cell (IsUsed x) (Means x) (meaning x.rows) λ row t m. (m.0, sym m.1)

      object : (v : ℕ) {cell : Option ℕ} {other : Option Term} → CellR (ObjectR rows_read kind s v) cell other
          → Held (HasTag x (kind v)) cell × (other ≡ option_map (meaning x.rows) cell)
      object v =
          read_cell (HasTag x (kind v)) (ObjectR rows_read kind s v) (meaning x.rows) λ row t m.
          ((m.0.0, tag_means r.good.0 row t m.0 ∙ m.1), sym m.0.1)

  -- both end alike, unless the rows run out of room
  pub rows_run_as_terms : (code : List Line) (s : State row_world) (t : State term_world)
      → All (λ l. T (operands_fit kind l.instruction) × ByteFits l.instruction) code → Reads kind s t
      → OutcomeR (Reads kind) (exec row_world kind code s) (exec term_world kind code t)
  rows_run_as_terms code s t good reads =
      let worlds = worlds_refine row_model term_model rows_read rows_are_terms in
      let all_fit = all_map code (λ l h. fits kind l.instruction h.0 h.1) good in
      outcome_map related_state (exec_related rows_read worlds kind code all_fit (rw reads.1 (state_related s reads.0)))
