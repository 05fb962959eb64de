-- What fits is unpacked and compiled, and words that fit are packed; what does not is 1 or 8.
use mathlib.Core.Path.{sym, ◌∙◌}
use lib.Seq.{length-take-le}
use Rattle.lending.proofs.CompileLaws.{compile_limit, words_long, bytes_refused, bytes_done}
use Rattle.cram.proofs.cram_compile.Goals as goal

pub returns-then-not-lengths_fit : goal.returns-then-not-lengths_fit
returns-then-not-lengths_fit c =
    rw c.numbers.ensures (compile_limit _ _ _ _ _ _ (λ place. (c.type_inv.code place).fits) (sym c.lengths_fit.ensures.fits ∙ c.if-not-lengths_fit.true))

pub returns-in_default : goal.returns-in_default
returns-in_default c =
    rw c.numbers-in_default.ensures (
    bytes_refused _ _ _ _ _ _ c.lengths_fit.ensures.fits c.if-not-lengths_fit.false c.rows-rows.ensures c.cells-object_cells.ensures
    c.cells-named_cells.ensures _ _ c.set_cells.ensures c.set_cells-2.ensures _ c.no_words-buffer.ensures c.compile_known-left.ensures c.in_default.not-Done (λ place. (c.type_inv.code place).fits)
    )

pub slice_bounds-buffer-end : goal.slice_bounds-buffer-end
slice_bounds-buffer-end c =
    words_long c.args.create _ _ _ _ c.args.code.now c.lengths_fit.ensures.fits c.if-not-lengths_fit.false c.rows-rows.ensures c.cells-object_cells.ensures
    c.cells-named_cells.ensures _ _ c.set_cells.ensures c.set_cells-2.ensures _ c.no_words-buffer.ensures c.compile_known-left.ensures c.in-Done.is

pub slice_bounds-deliver-end : goal.slice_bounds-deliver-end
slice_bounds-deliver-end c =
    sym (length-take-le _ _ (words_long c.args.create _ _ _ _ c.args.code.now c.lengths_fit.ensures.fits c.if-not-lengths_fit.false c.rows-rows.ensures c.cells-object_cells.ensures
    c.cells-named_cells.ensures _ _ c.set_cells.ensures c.set_cells-2.ensures _ c.no_words-buffer.ensures c.compile_known-left.ensures c.in-Done.is))

pub returns : goal.returns
returns c =
    bytes_done _ _ _ _ _ _ c.lengths_fit.ensures.fits c.if-not-lengths_fit.false c.rows-rows.ensures c.cells-object_cells.ensures
    c.cells-named_cells.ensures _ _ c.set_cells.ensures c.set_cells-2.ensures _ c.no_words-buffer.ensures c.compile_known-left.ensures c.in-Done.is c.deliver.ensures
