-- The loop's invariant is a run that has come to a word.
use borrow.Author.Rules.{rules}
use Rattle.execution.proofs.GoingLaws.{going_start, going_good, going_next, going_counted, going_end, halt_ends}
use Rattle.execution.proofs.steps.Goals as goal

pub loop-i-init : goal.loop-i-init
loop-i-init c = going_start c.requires c.requires.valid.within.objects c.requires.valid.within.messages

pub one-requires-clause-t : goal.one-requires-clause-t
one-requires-clause-t c = going_good _ _ c.loop-i.invariant c.requires c.loop-i-test.true

pub returns-in-Err : goal.returns-in-Err
returns-in-Err c =
    halt_ends _ _ c.loop-i.invariant c.requires c.loop-i-test.true c.one.ensures
    (search rules) _ _ c.halted.ensures c.in-Err.is

pub loop-i-preserved : goal.loop-i-preserved
loop-i-preserved c = going_next _ _ c.loop-i.invariant c.requires c.loop-i-test.true c.one.ensures c.in-Ok.is

pub returns : goal.returns
returns c = (going_end _ _ c.loop-i.invariant c.loop-i-test.false, going_counted _ _ c.loop-i.invariant c.loop-i-test.false c.requires)
