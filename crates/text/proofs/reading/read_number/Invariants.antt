use Prim.Native.Nat.{◌-◌}
use mathlib.Core.Path.{◌≡◌}
use lib.ListN.{length}
use Rattle.text.proofs.ReadStepLaws.{NumberLeft}
use Rattle.text.proofs.reading.read_number.Given as goal

abbrev pub invariant-loop-place : goal.invariant-loop-place
invariant-loop-place l = (l.place-end ≡ length l.text) × NumberLeft l.most l.end l.at l.text l.value l.place

abbrev pub decreases-loop-place : goal.decreases-loop-place
decreases-loop-place l = l.place-end - l.place
