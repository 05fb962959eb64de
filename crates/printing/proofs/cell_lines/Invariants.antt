-- The lines of the cells passed are written.
use lib.ListN.{take}
use Rattle.text.specs.Written.{Wrote}
use Rattle.printing.specs.Listing.{cell_lines}
use Rattle.printing.proofs.cell_lines.Given as goal

abbrev pub invariant-loop-number : goal.invariant-loop-number
invariant-loop-number l = Wrote (cell_lines l.word 0 (take l.number l.cells)) l.initial.out l.at l.out l.next
