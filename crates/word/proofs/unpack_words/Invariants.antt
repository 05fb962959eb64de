use Prim.Native.Nat.{◌-◌}
use Rattle.word.proofs.ByteLaws.{Unpacked}
use Rattle.word.proofs.unpack_words.Given as goal

abbrev pub invariant-loop-place : goal.invariant-loop-place
invariant-loop-place l = Unpacked 8 l.bytes l.initial.out l.out l.place

abbrev pub decreases-loop-place : goal.decreases-loop-place
decreases-loop-place l = l.count - l.place
