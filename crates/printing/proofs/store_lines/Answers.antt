use native.Mathlib.Omega.{arith}
use lib.ListN.{length-take}
use Rattle.printing.proofs.LineLaws.{cells_end}
use Rattle.printing.proofs.RanLaws.{ways}
use Rattle.printing.proofs.store_lines.Goals as goal

pub cell_lines-requires : goal.cell_lines-requires
cell_lines-requires c =
    omega (
      arith,
      cells_end _ _ c.cell_lines-next.ensures (omega arith),
      length-take 64
          c.args.messages.now,
    )

pub returns : goal.returns
returns c = search ways
