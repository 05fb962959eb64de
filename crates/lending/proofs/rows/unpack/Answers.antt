use Prim.Native.Nat.{◌*◌}
use mathlib.Core.Path.{sym, ◌∙◌, ap}
use lib.Dec.{eqb}
use native.Mathlib.Omega.{arith}
use Rattle.word.specs.Lowest.{each}
use Rattle.word.proofs.ByteLaws.{filled}
use Rattle.lending.proofs.TableLaws.{used_few, all_rows, bytes_behind, front_zero, rest_zero}
use Rattle.lending.proofs.rows.unpack.Goals as goal

pub overflow_mul-used : goal.overflow_mul-used
overflow_mul-used c = omega (arith, used_few c.args.bytes.now c.requires.0 c.unpack_used-used.ensures.0, c.requires)

pub slice_bounds-all_zero-count : goal.slice_bounds-all_zero-count
slice_bounds-all_zero-count c = omega (arith, used_few c.args.bytes.now c.requires.0 c.unpack_used-used.ensures.0, c.requires)

pub slice_bounds-all_zero-start : goal.slice_bounds-all_zero-start
slice_bounds-all_zero-start c = omega (arith, used_few c.args.bytes.now c.requires.0 c.unpack_used-used.ensures.0, c.requires)

pub returns-then-all_zero : goal.returns-then-all_zero
returns-then-all_zero c =
    let read = c.unpack_used-used in
    let behind = bytes_behind (8 * read.result) c.args.bytes.now in
    let zeros = ap (each (λ byte. eqb byte 0)) (sym behind) ∙ sym c.all_zero.ensures ∙ c.if-all_zero.true in (
      rest_zero c.args.bytes.now c.args.rows.now read.result c.requires.0 read.ensures.0 zeros c.requires.2 read.ensures.1,
      read.ensures.0,
      front_zero c.args.bytes.now c.args.rows.now read.result c.requires.0 read.ensures.0 zeros c.requires.1,
    )

pub returns : goal.returns
returns c = (
  c.unpack_words.ensures ∙ filled 8 c.args.bytes.now _ (omega arith),
  c.unpack_used-used.ensures.0,
  all_rows c.args.bytes.now (omega arith),
)
