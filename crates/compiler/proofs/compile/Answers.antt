-- Cells that are set are known; the words in the buffer come to the lent slice.
use mathlib.Core.Path.{sym, ◌∙◌}
use lib.Seq.{length-take-le}
use Rattle.compiler.proofs.OverCells.{cells_limit, cells_lengths, known_compiles, inside, delivers, not_done}
use Rattle.compiler.proofs.compile.Goals as goal

pub returns-then-objects-named : goal.returns-then-objects-named
returns-then-objects-named c = cells_limit _ _ _ _ _ _ c.if-objects-named.true

pub returns-in_default : goal.returns-in_default
returns-in_default c =
    let lengths = cells_lengths _ _ c.if-objects-named.false in
    let compiles = known_compiles _ _ _ _ _ _ _ lengths.0 lengths.1 c.set_cells.ensures c.set_cells-2.ensures _ c.no_words-buffer.ensures c.compile_known-left.ensures in
    compiles.refused _ (not_done _ c.in_default.not-Done)

pub slice_bounds-buffer-end : goal.slice_bounds-buffer-end
slice_bounds-buffer-end c =
    let lengths = cells_lengths _ _ c.if-objects-named.false in
    let compiles = known_compiles _ _ _ _ _ _ _ lengths.0 lengths.1 c.set_cells.ensures c.set_cells-2.ensures _ c.no_words-buffer.ensures c.compile_known-left.ensures in
    inside compiles c.in-Done.is

pub slice_bounds-deliver-end : goal.slice_bounds-deliver-end
slice_bounds-deliver-end c =
    let lengths = cells_lengths _ _ c.if-objects-named.false in
    let compiles = known_compiles _ _ _ _ _ _ _ lengths.0 lengths.1 c.set_cells.ensures c.set_cells-2.ensures _ c.no_words-buffer.ensures c.compile_known-left.ensures in
    sym (length-take-le c.in-Done.count _ (inside compiles c.in-Done.is))

pub returns : goal.returns
returns c =
    let lengths = cells_lengths _ _ c.if-objects-named.false in
    let compiles = known_compiles _ _ _ _ _ _ _ lengths.0 lengths.1 c.set_cells.ensures c.set_cells-2.ensures _ c.no_words-buffer.ensures c.compile_known-left.ensures in
    c.deliver.ensures ∙ delivers compiles c.in-Done.is _
