use Rattle.code_reading.proofs.WordStepLaws.{line_is, line_not, line_inside, no_line, other_number, fields_fit, own_number, word_here}
use Rattle.code_reading.proofs.lines.word_at.Goals as goal

pub returns-in_err-numbers : goal.returns-in_err-numbers
returns-in_err-numbers c = rw c.from_residual.ensures (no_line _ _ _ (line_not c.read_line.ensures c.in_err-numbers.was))

pub returns-then-numbers-line : goal.returns-then-numbers-line
returns-then-numbers-line c =
    other_number _ _ c.in_ok-numbers.numbers _ (line_is c.read_line.ensures c.in_ok-numbers.was) _ c.if-numbers-line.true

pub packed-requires : goal.packed-requires
packed-requires c = fields_fit _ _ _ _ (line_is c.read_line.ensures c.in_ok-numbers.was) c.requires

pub returns : goal.returns
returns c =
    let reads = c.read_line.ensures in
    let was = c.in_ok-numbers.was in
    word_here _ _ _ _ (own_number _ _ _ _ (line_is reads was) c.if-numbers-line.false c.packed.ensures) (line_inside reads was)
