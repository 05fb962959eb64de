-- The loop's invariant is a run that has come to a word.
use Rattle.execution.specs.Steps.{lent_from}
use Rattle.execution.proofs.GoingLaws.{Going}
use Rattle.execution.proofs.steps.Given as goal

abbrev pub invariant-loop-i : goal.invariant-loop-i
invariant-loop-i l =
    Going (lent_from l.start l.kinds l.initial.cells.objects l.initial.cells.messages l.certificates l.initial.rows) l.code l.g l.cells.objects l.cells.messages l.rows l.i
