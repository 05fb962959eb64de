use mathlib.Core.Path.{sym}
use Rattle.std.specs.Prelude.{Option}
use native.Mathlib.Omega.{arith}
use lib.ListN.{take}
use lib.Seq.{length-take-le}
use Rattle.answers.specs.First.{first}
use Rattle.code_reading.specs.Reading.{word_refusals}
use Rattle.code_reading.specs.declared.answer.ReadBack.{ReadBack}
use Rattle.code_reading.proofs.DeliverLaws.{found_fits}
use Rattle.read_lending.proofs.BytesLaws.{not_words, refuses_bytes, fills_bytes}
use Rattle.read_lending.proofs.deliver_bytes.Goals as goal

pub returns-then-code-ne0 : goal.returns-then-code-ne0
returns-then-code-ne0 c =
    let refused : Option ReadBack = first (word_refusals c.args.lines (take c.args.lines c.args.words.now) c.args.kinds.now) in
    rw c.numbers.ensures (not_words refused c.args.lines c.args.words.now c.args.code.now c.if-code-ne0.true)

pub slice_bounds-pack-end : goal.slice_bounds-pack-end
slice_bounds-pack-end c =
    sym (length-take-le c.in-Ok.count c.args.words.now (found_fits c.args.lines c.args.words.now c.args.kinds.now c.requires c.look_words.ensures c.in-Ok.is).1)

pub pack-requires : goal.pack-requires
pack-requires c =
    let few = found_fits c.args.lines c.args.words.now c.args.kinds.now c.requires c.look_words.ensures c.in-Ok.is in
    (omega (arith, few.0, length-take-le c.in-Ok.count c.args.words.now few.1), c.if-code-ne0.false)

pub returns-in-Ok : goal.returns-in-Ok
returns-in-Ok c =
    let refused : Option ReadBack = first (word_refusals c.args.lines (take c.args.lines c.args.words.now) c.args.kinds.now) in
    fills_bytes refused c.args.lines c.args.words.now c.args.code.now
    c.if-code-ne0.false c.look_words.ensures c.in-Ok.is
    c.pack.ensures

pub returns-in-Err : goal.returns-in-Err
returns-in-Err c =
    let refused : Option ReadBack = first (word_refusals c.args.lines (take c.args.lines c.args.words.now) c.args.kinds.now) in
    rw c.numbers-in-Err.ensures
    (refuses_bytes refused c.args.lines c.args.words.now c.args.code.now
    c.if-code-ne0.false c.look_words.ensures c.in-Err.is)
