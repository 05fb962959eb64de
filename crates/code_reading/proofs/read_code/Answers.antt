use Rattle.code_reading.proofs.DeliverLaws.{bad_line_read, good_lines_read}
use Rattle.code_reading.proofs.read_code.Goals as goal

pub returns-in-Err : goal.returns-in-Err
returns-in-Err c =
    bad_line_read c.args.text.now c.args.kinds.now c.args.code.now c.read_words.ensures.0 c.in-Err.is

pub returns-in-Ok : goal.returns-in-Ok
returns-in-Ok c =
    let read = c.read_words.ensures in
    let buffer = c.no_words-words in
    good_lines_read c.args.text.now c.args.kinds.now c.args.code.now buffer.result read.0 read.1
    c.in-Ok.is buffer.ensures
    c.deliver_words.ensures
