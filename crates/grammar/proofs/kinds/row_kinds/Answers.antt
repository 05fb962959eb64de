use native.Mathlib.Omega.{arith}
use Rattle.patterns.specs.Row.{pattern_fields}
use Rattle.patterns.specs.RowKinds.{kinds_by}
use Rattle.word.proofs.ArmLaws.{past}
use Rattle.patterns.proofs.KindLaws.{other_way, kinds_past}
use Rattle.grammar.proofs.kinds.row_kinds.Goals as goal

pub returns-in-0 : goal.returns-in-0
unfolding kinds_by
returns-in-0 c = rw (← c.tag-form.ensures, c.in-0.is, c.kind_at-own.ensures, c.variable.ensures)

pub returns-in-1 : goal.returns-in-1
unfolding kinds_by
returns-in-1 c = rw (← c.tag-form.ensures, c.in-1.is)

pub returns-in-2 : goal.returns-in-2
unfolding kinds_by
returns-in-2 c = rw (← c.tag-form.ensures, c.in-2.is, c.kind_at-own.ensures, c.variable.ensures)

pub returns-in-3 : goal.returns-in-3
unfolding kinds_by
returns-in-3 c = rw (
  ← c.tag-form.ensures,
  c.in-3.is,
  c.kind_at-own.ensures,
  c.variable.ensures,
  c.kind_at-other.ensures,
  c.y.ensures,
)

pub returns-in-4 : goal.returns-in-4
unfolding kinds_by
returns-in-4 c = rw (
  ← c.tag-form.ensures,
  c.in-4.is,
  c.kind_at-own.ensures,
  c.variable.ensures,
  c.kind_at-other.ensures,
  c.y.ensures,
)

pub returns-in-5 : goal.returns-in-5
unfolding kinds_by
returns-in-5 c = rw (
  ← c.tag-form.ensures,
  c.in-5.is,
  c.key_fits.ensures,
  c.kind_at-own.ensures,
  c.variable.ensures,
)

pub returns-in-6 : goal.returns-in-6
unfolding kinds_by
returns-in-6 c = rw (
  ← c.tag-form.ensures,
  c.in-6.is,
  c.key_fits-in-6.ensures,
  c.kind_at-own.ensures,
  c.variable.ensures,
  other_way,
)

pub returns-in-7 : goal.returns-in-7
unfolding kinds_by
returns-in-7 c = rw (← c.tag-form.ensures, c.in-7.is, c.kind_at-own.ensures, c.variable.ensures)

pub returns-in-8 : goal.returns-in-8
unfolding kinds_by
returns-in-8 c = rw (← c.tag-form.ensures, c.in-8.is, c.kind_at-own.ensures, c.variable.ensures)

pub returns-in-9 : goal.returns-in-9
unfolding kinds_by
returns-in-9 c = rw (← c.tag-form.ensures, c.in-9.is)

pub returns-in_default : goal.returns-in_default
returns-in_default c =
    let word = c.args.word in
    rw (
      kinds_past _ _ (pattern_fields word) (rw (← c.tag-form.ensures) (past 0 10 c.tag-form.result c.in_default.in_default-own.rest (omega arith))),
      c.kind_at-own.ensures,
      c.variable.ensures,
    )
