-- Each check's answer, in the checks' order.
use mathlib.Core.Path.{sym, ◌∙◌}
use Rattle.word.proofs.ScanLaws.{placed_at, placed_nowhere}
use Rattle.knowing.specs.Known.{known}
use Rattle.compiler.proofs.LookLaws.{found_limit, found_store, found_row, found_kind, found_nothing}
use Rattle.compiler.proofs.looking.look.Goals as goal

pub returns-then-not-lengths_fit : goal.returns-then-not-lengths_fit
returns-then-not-lengths_fit c = found_limit c.args.create c.args.pattern.now c.args.kinds.now (known c.args.objects) (sym c.lengths_fit.ensures ∙ c.if-not-lengths_fit.true)

pub returns-then-not-declares : goal.returns-then-not-declares
returns-then-not-declares c =
    let fits = sym c.lengths_fit.ensures ∙ c.if-not-lengths_fit.false in
    found_store c.args.create c.args.pattern.now c.args.kinds.now (known c.args.objects) fits (sym c.declares.ensures ∙ c.if-not-declares.true)

pub returns-in-Some : goal.returns-in-Some
returns-in-Some c =
    let fits = sym c.lengths_fit.ensures ∙ c.if-not-lengths_fit.false in
    let declared = sym c.declares.ensures ∙ c.if-not-declares.false in
    found_row c.args.create c.args.pattern.now c.args.kinds.now (known c.args.objects) fits declared (placed_at _ c.first_bad_pattern.ensures c.in-Some.is)

pub returns-in-Some-first_wrong_kind : goal.returns-in-Some-first_wrong_kind
returns-in-Some-first_wrong_kind c =
    let fits = sym c.lengths_fit.ensures ∙ c.if-not-lengths_fit.false in
    let declared = sym c.declares.ensures ∙ c.if-not-declares.false in
    let formed = placed_nowhere _ c.first_bad_pattern.ensures c.in_default.is in
    found_kind c.args.create c.args.pattern.now c.args.kinds.now (known c.args.objects) fits declared formed (placed_at _ c.first_wrong_kind.ensures c.in-Some-first_wrong_kind.is)

pub returns : goal.returns
returns c =
    let fits = sym c.lengths_fit.ensures ∙ c.if-not-lengths_fit.false in
    let declared = sym c.declares.ensures ∙ c.if-not-declares.false in
    let formed = placed_nowhere _ c.first_bad_pattern.ensures c.in_default.is in
    found_nothing c.args.create c.args.pattern.now c.args.kinds.now (known c.args.objects) fits declared formed
    (placed_nowhere _ c.first_wrong_kind.ensures c.in_default-first_wrong_kind.is)
