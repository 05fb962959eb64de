use Prim.Native.Nat.{◌-◌}
use lib.ListN.{length}
use Rattle.code_reading.proofs.LinesLaws.{LinesLeft}
use Rattle.code_reading.proofs.lines.read_words.Given as goal

abbrev pub invariant-loop-at : goal.invariant-loop-at
invariant-loop-at l = LinesLeft l.text l.initial.words l.words l.lines l.at

abbrev pub decreases-loop-at : goal.decreases-loop-at
decreases-loop-at l = length l.text - l.at
