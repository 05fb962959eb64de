use lib.ListN.{take}
use Rattle.text.specs.Lines.{spaced}
use Rattle.text.specs.Written.{Wrote}
use Rattle.text.proofs.put_spaced.Given as goal

abbrev pub invariant-loop-place : goal.invariant-loop-place
invariant-loop-place l = Wrote (spaced (take l.place l.numbers)) l.initial.out l.at l.out l.next
