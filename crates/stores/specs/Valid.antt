-- Valid stores: refusal 3.
use Rattle.std.specs.Prelude.{ℕ, Bool, true, not, ◌&&◌, ◌||◌, List, [], ◌∷◌, eqb, leb, ltb}
use Rattle.numbers.specs.Kinds.{tuple_kind}
use Rattle.word.specs.Lowest.{each}
use Rattle.terms.specs.Row.{tag_of, row_at}
use Rattle.stores.specs.Cells.{is_set}
use Rattle.stores.specs.Certificates.{pair_fits, agents_once}

-- a kind is at most that of a tuple; 0 means undeclared
unfoldable pub kinds_fit : List ℕ → Bool
kinds_fit kinds = each (λ kind. leb kind tuple_kind) kinds

-- a test of each variable's kind and cell
unfoldable pub each_variable : (ℕ → ℕ → Bool) → List ℕ → List ℕ → Bool
each_variable test [] cells = true
each_variable test (kind ∷ kinds) [] = true
each_variable test (kind ∷ kinds) (cell ∷ cells) = test kind cell && each_variable test kinds cells

-- the cell of an undeclared variable is unset
abbrev pub undeclared_unset : ℕ → ℕ → Bool
undeclared_unset kind cell = not (eqb kind 0) || not (is_set cell)

-- a cell is unset or a used row
abbrev pub cell_fits : ℕ → ℕ → Bool
cell_fits used cell = not (is_set cell) || ltb cell used

-- a set object cell's row has the variable's kind
abbrev pub object_fits : List ℕ → ℕ → ℕ → ℕ → Bool
object_fits rows used kind cell = undeclared_unset kind cell && cell_fits used cell && (not (is_set cell) || eqb (tag_of (row_at rows cell)) kind)

-- 3, as compile sees it: which cells are set, and no more
unfoldable pub declared : List ℕ → List ℕ → Bool
declared kinds objects = kinds_fit kinds && each_variable undeclared_unset kinds objects

-- 3, as run sees it
unfoldable pub valid : List ℕ → ℕ → List ℕ → List ℕ → List ℕ → List ℕ → ℕ → Bool
valid rows used kinds objects messages certificates accumulator =
    kinds_fit kinds && each_variable (object_fits rows used) kinds objects && each (cell_fits used) messages
    && each (pair_fits rows used) certificates && agents_once certificates && cell_fits used accumulator
