use mathlib.Core.Path.{sym}
use Rattle.std.specs.Prelude.{Option}
use native.Mathlib.Omega.{arith}
use lib.ListN.{take}
use lib.Seq.{length-take-le}
use Rattle.answers.specs.First.{first}
use Rattle.code_reading.specs.Reading.{word_refusals}
use Rattle.code_reading.specs.declared.answer.ReadBack.{ReadBack}
use Rattle.code_reading.proofs.DeliverLaws.{found_fits, delivers_refusal, delivers_words}
use Rattle.code_reading.proofs.deliver_words.Goals as goal

pub slice_bounds-fill-end : goal.slice_bounds-fill-end
slice_bounds-fill-end c =
    let count = c.in-Ok.count in
    sym (length-take-le count c.args.words.now (found_fits c.args.lines c.args.words.now c.args.kinds.now c.requires c.look_words.ensures c.in-Ok.is).1)

pub fill-requires : goal.fill-requires
fill-requires c =
    let count = c.in-Ok.count in
    let found = found_fits c.args.lines c.args.words.now c.args.kinds.now c.requires c.look_words.ensures c.in-Ok.is in
    omega (arith, found.0, length-take-le count c.args.words.now found.1)

pub returns-in-Ok : goal.returns-in-Ok
returns-in-Ok c =
    let refused : Option ReadBack = first (word_refusals c.args.lines (take c.args.lines c.args.words.now) c.args.kinds.now) in
    delivers_words refused c.args.lines c.args.words.now c.args.code.now c.look_words.ensures c.in-Ok.is c.fill.ensures

pub returns-in-Err : goal.returns-in-Err
returns-in-Err c =
    let refused : Option ReadBack = first (word_refusals c.args.lines (take c.args.lines c.args.words.now) c.args.kinds.now) in
    delivers_refusal refused c.args.lines c.args.words.now c.args.code.now c.look_words.ensures c.in-Err.is
