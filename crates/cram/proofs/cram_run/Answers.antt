-- What fits is unpacked, run over its table, and packed back; what does not is 1.
use mathlib.Core.Path.{sym, ◌∙◌}
use Rattle.lending.proofs.RunLaws.{run_limit, lent_elements_lem, run_packed}
use Rattle.cram.proofs.cram_run.Goals as goal

pub returns-then-not-lengths_fit : goal.returns-then-not-lengths_fit
returns-then-not-lengths_fit c =
    rw c.numbers.ensures (
    run_limit _ _ (λ place. (c.type_inv.objects place).fits) (λ place. (c.type_inv.messages place).fits) (λ place. (c.type_inv.terms place).fits)
    (sym c.lengths_fit.ensures.fits ∙ c.if-not-lengths_fit.true)
    )

pub returns : goal.returns
returns c =
    run_packed _ _ c.lengths_fit.ensures.fits c.if-not-lengths_fit.false
    (lent_elements_lem _ _ c.cells.ensures c.cells-2.ensures c.rows-pairs.ensures c.code_words-words.ensures)
    c.over_table-left.ensures.0 c.over_table-left.ensures.1 c.pack_pairs.ensures c.pack_pairs-2.ensures c.numbers-2.ensures
