use native.Mathlib.Omega.{arith}
use Rattle.std.proofs.lemmas.List.{set-get_or}
use lib.ListN.{length}
use mathlib.Core.Path.{◌≡◌}
use Rattle.lending.proofs.TableLaws.{reading_none, reading_more, reading_zero, reading_all}
use Rattle.lending.proofs.rows.unpack_used.Goals as goal

pub loop-place-init : goal.loop-place-init
loop-place-init c = reading_none _ _

pub returns-then-word-eq0 : goal.returns-then-word-eq0
returns-then-word-eq0 c =
    let loop = c.loop-place in
    rw (set-get_or loop.rows) (reading_zero c.requires loop.invariant (omega arith) c.word_at-word.ensures c.if-word-eq0.true)

pub loop-place-preserved : goal.loop-place-preserved
loop-place-preserved c =
    let loop = c.loop-place in
    reading_more c.requires loop.invariant (omega arith) c.word_at-word.ensures c.if-word-eq0.false

pub returns : goal.returns
returns c =
    let loop = c.loop-place in
    let end : length loop.rows ≡ loop.place = omega (arith, loop.invariant.unpacked.long) in
    rw end (reading_all c.requires loop.invariant (omega arith))
