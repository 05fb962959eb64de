-- The words between two ends, where they lie in order within the code.
use Prim.Native.Nat.{◌<◌, ◌≤◌}
use native.Mathlib.Omega.{arith}
use lib.ListN.{length, get_or}
use Rattle.round_parts.proofs.PartLaws.{no_round, past_ends, within, out_of_order, a_round}
use Rattle.round_parts.proofs.round_part.Goals as goal

pub returns-then-ends-round : goal.returns-then-ends-round
returns-then-ends-round c = no_round _ _ _ (past_ends c.args.code.now _ _ c.if-ends-round.true) c.args.code.ref_ptr

pub returns-then-start-end : goal.returns-then-start-end
returns-then-start-end c =
    let inside : c.args.round < length c.args.ends.now = omega (arith, c.if-ends-round.false) in
    a_round _ _ _ inside c.start_of-start.ensures c.if-start-end.true c.args.code.ref_ptr

pub returns-else-start-end : goal.returns-else-start-end
returns-else-start-end c =
    let inside : c.args.round < length c.args.ends.now = omega (arith, c.if-ends-round.false) in
    no_round _ _ _ (out_of_order c.args.code.now _ _ inside c.start_of-start.ensures c.if-start-end.false) c.args.code.ref_ptr
