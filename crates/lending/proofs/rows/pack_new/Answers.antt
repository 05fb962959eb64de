use native.Mathlib.Omega.{arith}
use Rattle.word.proofs.ByteLaws.{packed_more}
use Rattle.lending.proofs.TableLaws.{packed_before, packed_behind}
use Rattle.lending.proofs.rows.pack_new.Goals as goal

pub loop-place-init : goal.loop-place-init
loop-place-init c =
    packed_before c.args.rows.now c.args.bytes.now c.requires.0 (λ place. (c.type_inv.bytes place).fits) c.requires.2 c.requires.1

pub loop-place-preserved : goal.loop-place-preserved
loop-place-preserved c =
    packed_more 8 c.args.rows.now c.args.bytes.now c.loop-place.bytes _ c.loop-place.place c.loop-place.invariant
    (omega arith) c.requires.0 c.put_word.ensures

pub returns : goal.returns
returns c =
    packed_behind c.args.rows.now c.args.bytes.now c.requires.0 (λ place. (c.slice_known-1.given place).fits) c.requires.2
    c.loop-place.invariant (omega arith)
