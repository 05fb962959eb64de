-- The lines of the words passed are written.
use lib.ListN.{take}
use Rattle.text.specs.Written.{Wrote}
use Rattle.printing.specs.Listing.{code_lines}
use Rattle.printing.proofs.code_lines.Given as goal

abbrev pub invariant-loop-place : goal.invariant-loop-place
invariant-loop-place l = Wrote (code_lines 0 (take l.place l.code)) l.initial.out 0 l.out l.next
