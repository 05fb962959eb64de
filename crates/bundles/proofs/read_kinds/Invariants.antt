use Rattle.bundles.proofs.KindLaws.{KindsRead}
use Rattle.bundles.proofs.read_kinds.Given as goal

abbrev pub invariant-loop-place : goal.invariant-loop-place
invariant-loop-place l = KindsRead l.fn.bytes l.initial.kinds l.start l.kinds l.place
