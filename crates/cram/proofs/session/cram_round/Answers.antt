-- What fits is unpacked, played over its table, and packed back; what does not is 1.
use Rattle.lending.proofs.RoundLaws.{bytes_limit, bytes_fitting, round_elements_lem, round_packed}
use Rattle.cram.proofs.session.cram_round.Goals as goal

pub returns-then-not-lengths_fit : goal.returns-then-not-lengths_fit
returns-then-not-lengths_fit c =
    rw c.numbers.ensures (
    bytes_limit _ _ c.lengths_fit-slices.ensures.fits c.lengths_fit.ensures.fits c.if-not-lengths_fit.true
    (λ place. (c.type_inv.session place).fits) (λ place. (c.type_inv.objects place).fits) (λ place. (c.type_inv.messages place).fits) (λ place. (c.type_inv.terms place).fits)
    )

pub returns : goal.returns
returns c =
    round_packed _ _ (bytes_fitting _ _ c.lengths_fit-slices.ensures.fits c.lengths_fit.ensures.fits c.if-not-lengths_fit.false)
    (round_elements_lem _ _ c.unpack.ensures c.cells.ensures c.cells-2.ensures c.rows-pairs.ensures c.code_words-words.ensures)
    c.over_table-left.ensures c.pack_pairs.ensures c.pack_pairs-2.ensures c.pack.ensures c.numbers-2.ensures
