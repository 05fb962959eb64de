use mathlib.Core.Path.{◌≡◌, sym, ◌∙◌}
use Rattle.std.proofs.lemmas.Slice.Zip.{Zip-more, either_empty_from_Zip}
use Rattle.stores.specs.Valid.{object_fits}
use Rattle.stores.proofs.LoopLaws.{variable_stop, variable_next, variables_end}
use Rattle.validity.proofs.objects_fit.Goals as goal

pub loop-kind-init : goal.loop-kind-init
loop-kind-init c =
    let all = c.into_iter-kind-iterator.result in
    let first : all.a.rest.now ≡ c.args.kinds.now = cc in
    let second : all.b.rest.now ≡ c.args.objects.now = cc in
    rw (first, second)

pub returns-then-not-object_fits : goal.returns-then-not-object_fits
returns-then-not-object_fits c =
    let more = Zip-more c.loop-kind.kind-iterator c.next.new.self c.next.result _ c.in-Some.is c.next.ensures.steps in
    sym (variable_stop (object_fits c.args.rows.now c.args.used) c.loop-kind.invariant more.0 more.1 (sym c.object_fits.ensures ∙ c.if-not-object_fits.true))

pub loop-kind-preserved : goal.loop-kind-preserved
loop-kind-preserved c =
    let more = Zip-more c.loop-kind.kind-iterator c.next.new.self c.next.result _ c.in-Some.is c.next.ensures.steps in
    variable_next (object_fits c.args.rows.now c.args.used) c.loop-kind.invariant more.0 more.1 (sym c.object_fits.ensures ∙ c.if-not-object_fits.false)

pub returns : goal.returns
returns c =
    sym
    (variables_end (object_fits c.args.rows.now c.args.used) c.loop-kind.invariant
    (either_empty_from_Zip c.loop-kind.kind-iterator c.next.new.self c.next.result c.in-None.is c.next.ensures.steps))
