use native.Mathlib.Omega.{arith}
use lib.ListN.{length-set}
use Rattle.word.proofs.ByteLaws.{unpacking}
use Rattle.word.proofs.unpack_pairs.Goals as goal

pub loop-place-init : goal.loop-place-init
loop-place-init c = search unpacking

pub bounds-out-place-in-loop-place : goal.bounds-out-place-in-loop-place
bounds-out-place-in-loop-place c =
    let loop = c.loop-place in
    rw length-set (omega (arith, loop.invariant.long, c.loop-place-test.true, c.requires))

pub loop-place-preserved : goal.loop-place-preserved
loop-place-preserved c = search unpacking

pub returns-then-place-count : goal.returns-then-place-count
returns-then-place-count c = search unpacking

pub returns-else-place-count : goal.returns-else-place-count
returns-else-place-count c = search unpacking
