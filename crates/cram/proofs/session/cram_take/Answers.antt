-- The record is unpacked, its answer taken, and packed back; a record of another length is 1.
use Rattle.lending.proofs.RoundLaws.{take_limit, take_packed}
use Rattle.cram.proofs.session.cram_take.Goals as goal

pub returns-then-session-ne-RECORD_BYTES : goal.returns-then-session-ne-RECORD_BYTES
returns-then-session-ne-RECORD_BYTES c = take_limit c.args.session.now c.if-session-ne-RECORD_BYTES.true

pub returns : goal.returns
returns c =
    take_packed c.args.session.now c.if-session-ne-RECORD_BYTES.false c.unpack.ensures c.take_of-taken.ensures c.pack.ensures
