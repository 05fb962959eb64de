use Prim.Native.Nat.{◌+◌, ◌*◌, ◌-◌, ◌<◌}
use mathlib.Core.Path.{◌≡◌}
use native.Mathlib.Omega.{arith}
use Rattle.std.proofs.lemmas.List.{get_or-take, get_or-drop}
use lib.ListN.{length-set}
use Rattle.bundles.proofs.KindLaws.{kinds_none, kinds_more, kinds_all}
use Rattle.bundles.proofs.read_kinds.Goals as goal

pub loop-place-init : goal.loop-place-init
loop-place-init c = kinds_none _ _ _

pub bounds-kinds-place-in-loop-place : goal.bounds-kinds-place-in-loop-place
bounds-kinds-place-in-loop-place c = simp length-set (omega arith)

pub loop-place-preserved : goal.loop-place-preserved
loop-place-preserved c =
    let turn = c.loop-place in
    let size : 8 * c.args.from + 32 - 8 * c.args.from ≡ 32 = omega arith in
    let inside : turn.place < 32 = omega arith in
    rw (size, get_or-take, get_or-drop)
    (kinds_more _ _ turn.kinds _ turn.place (omega arith) (omega arith) (λ place. (c.type_inv.bytes place).fits) inside turn.invariant)

pub returns : goal.returns
returns c =
    let turn = c.loop-place in
    kinds_all _ _ turn.kinds _ turn.place (omega arith) (omega arith) turn.invariant
