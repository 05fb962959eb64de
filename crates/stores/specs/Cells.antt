-- Cells in a list: a row, or 65,535 for unset. A store is what the cells hold.
use Rattle.std.specs.Prelude.{ℕ, zero, suc, Bool, cond, not, List, [], ◌∷◌, get_or, eqb}
use Rattle.std.specs.Prelude.{Option, None, Some}

abbrev pub unset : ℕ
unset = 65535

abbrev pub is_set : ℕ → Bool
is_set cell = not (eqb cell unset)

-- what a cell holds, and back
unfoldable pub held : ℕ → Option ℕ
held cell = cond (eqb cell unset) None (Some cell)

unfoldable pub cell_of : Option ℕ → ℕ
cell_of None = unset
cell_of (Some row) = row

-- a cell past the list is unset
unfoldable pub store_of : List ℕ → ℕ → Option ℕ
store_of cells n = held (get_or cells n unset)

-- so many cells of a store, from a number on
unfoldable pub cells_from : ℕ → ℕ → (ℕ → Option ℕ) → List ℕ
cells_from n zero store = []
cells_from n (suc count) store = cell_of (store n) ∷ cells_from (suc n) count store
