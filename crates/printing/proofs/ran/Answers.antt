use native.Mathlib.Omega.{arith}
use Rattle.printing.proofs.LineLaws.{code_end, word_line_end}
use Rattle.printing.proofs.RanLaws.{ways}
use Rattle.printing.proofs.ran.Goals as goal

pub end_line-after_end-requires : goal.end_line-after_end-requires
end_line-after_end-requires c = omega (arith, code_end _ c.code_lines-after_code.ensures (omega arith))

pub returns-in_default : goal.returns-in_default
returns-in_default c = search ways

pub store_lines-requires : goal.store_lines-requires
store_lines-requires c = omega (
  arith,
  code_end _ c.code_lines-after_code.ensures
      (omega arith),
  word_line_end _ _ c.end_line-after_end.ensures,
)

pub returns-in-Done : goal.returns-in-Done
returns-in-Done c = search ways
