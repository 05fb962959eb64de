use native.Mathlib.Omega.{arith}
use borrow.Author.Tests.{le-ltb}
use Rattle.word.proofs.ArmLaws.{past}
use Rattle.grammar.proofs.rules.row_fits.Goals as goal

pub returns-in-0 : goal.returns-in-0
returns-in-0 c = rw (← c.tag-form.ensures, c.in-0.is, c.form_fits.ensures)

pub returns-in-1 : goal.returns-in-1
returns-in-1 c = rw (← c.tag-form.ensures, c.in-1.is, c.form_fits-in-1.ensures)

pub returns-in-2 : goal.returns-in-2
returns-in-2 c = rw (← c.tag-form.ensures, c.in-2.is, c.form_fits-in-2.ensures)

pub returns-in-3 : goal.returns-in-3
returns-in-3 c = rw (← c.tag-form.ensures, c.in-3.is, c.form_fits-in-3.ensures)

pub returns-in-4 : goal.returns-in-4
returns-in-4 c = rw (← c.tag-form.ensures, c.in-4.is, c.form_fits-in-4.ensures)

pub returns-in-5 : goal.returns-in-5
returns-in-5 c = rw (← c.tag-form.ensures, c.in-5.is, c.form_fits-in-5.ensures, c.key_form.ensures)

pub returns-in-6 : goal.returns-in-6
returns-in-6 c = rw (← c.tag-form.ensures, c.in-6.is, c.form_fits-in-6.ensures, c.key_form.ensures)

pub returns-in-7 : goal.returns-in-7
returns-in-7 c = rw (← c.tag-form.ensures, c.in-7.is, c.form_fits-in-7.ensures)

pub returns-in-8 : goal.returns-in-8
returns-in-8 c = rw (← c.tag-form.ensures, c.in-8.is, c.form_fits-in-8.ensures)

pub returns-in-9 : goal.returns-in-9
returns-in-9 c = rw (← c.tag-form.ensures, c.in-9.is, c.form_fits-in-9.ensures)

pub returns-in_default : goal.returns-in_default
returns-in_default c = rw (← c.tag-form.ensures, le-ltb _ _ (past 0 10 c.tag-form.result c.in_default.in_default-own.rest (omega arith)))
