use Rattle.read_lending.proofs.BytesLaws.{bad_line_bytes, good_lines_bytes}
use Rattle.read_lending.proofs.read_listing.Goals as goal

pub returns-in-Err : goal.returns-in-Err
returns-in-Err c =
    rw c.numbers.ensures
    (bad_line_bytes c.args.text.now c.args.kinds.now c.args.code.now
    (λ place. (c.slice_known-1.given place).fits) c.read_words.ensures.0 c.in-Err.is)

pub returns-in-Ok : goal.returns-in-Ok
returns-in-Ok c =
    let buffer = c.no_words-words in
    good_lines_bytes c.args.text.now c.args.kinds.now c.args.code.now
    (λ place. (c.slice_known-1.given place).fits) buffer.result c.read_words.ensures.0
    c.read_words.ensures.1 c.in-Ok.is buffer.ensures c.deliver_bytes.ensures
