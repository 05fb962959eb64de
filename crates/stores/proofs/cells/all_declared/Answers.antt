use mathlib.Core.Path.{◌≡◌, ◌∙◌}
use Rattle.std.proofs.lemmas.Slice.Zip.{Zip-more, either_empty_from_Zip}
use Rattle.stores.specs.Valid.{undeclared_unset}
use Rattle.stores.proofs.LoopLaws.{variables_gather, variables_gathered}
use Rattle.stores.proofs.cells.all_declared.Goals as goal

pub loop-kind-init : goal.loop-kind-init
loop-kind-init c =
    let all = c.into_iter-kind-iterator.result in
    let first : all.a.rest.now ≡ c.args.kinds.now = cc in
    let second : all.b.rest.now ≡ c.args.objects.now = cc in
    rw (first, second)

pub loop-kind-preserved : goal.loop-kind-preserved
loop-kind-preserved c =
    let more = Zip-more c.loop-kind.kind-iterator c.next.new.self c.next.result _ c.in-Some.is c.next.ensures.steps in
    variables_gather undeclared_unset c.loop-kind.declared c.loop-kind.invariant more.0 more.1 ∙ rw c.undeclared_unset-declared.ensures

pub returns : goal.returns
returns c =
    variables_gathered undeclared_unset c.loop-kind.declared c.loop-kind.invariant
    (either_empty_from_Zip c.loop-kind.kind-iterator c.next.new.self c.next.result c.in-None.is c.next.ensures.steps)
