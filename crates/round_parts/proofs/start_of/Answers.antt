use Prim.Native.Nat.{◌-◌}
use native.Mathlib.Omega.{arith}
use Rattle.round_parts.proofs.PartLaws.{start_first, start_later}
use Rattle.round_parts.proofs.start_of.Goals as goal

pub returns-then-round-eq0 : goal.returns-then-round-eq0
returns-then-round-eq0 c = start_first _ c.if-round-eq0.true

pub returns : goal.returns
returns c = start_later _ c.args.round c.if-round-eq0.false
