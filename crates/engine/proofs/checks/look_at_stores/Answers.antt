-- Each check's answer, in the checks' order.
use native.Mathlib.Omega.{arith}
use mathlib.Core.Path.{sym, ◌∙◌}
use Rattle.answers.specs.declared.direct.Direct.TheVariants.{BadTerm}
use Rattle.word.proofs.TestLaws.{both, at_most}
use Rattle.terms.proofs.TableLaws.{used_rows_lem}
use Rattle.calls.specs.Run.{Lent}
use Rattle.looking.proofs.LookLaws.{true_holds, checked_bad, checked_used}
use Rattle.engine.proofs.FoundLaws.{lent, mapped_ok, mapped_err, raised, stores_limit, stores_term, stores_bad, stores_accepted}
use Rattle.engine.proofs.checks.look_at_stores.Goals as goal

pub returns-then-not-fits : goal.returns-then-not-fits
returns-then-not-fits c =
    let x : Lent = lent c.args.kinds.now c.args.objects.now c.args.named.now c.args.certificates.now c.args.accumulator c.args.terms.now c.args.counter in
    stores_limit x c.if-not-fits.true

pub first_bad_row-requires : goal.first_bad_row-requires
first_bad_row-requires c = let fits = simp (both, at_most) at (true_holds c.if-not-fits.false) in fits.0.1

pub returns-in_err-count : goal.returns-in_err-count
returns-in_err-count c =
    let x : Lent = lent c.args.kinds.now c.args.objects.now c.args.named.now c.args.certificates.now c.args.accumulator c.args.terms.now c.args.counter in
    let (row, bad, same) = mapped_err BadTerm c.map_err.result c.first_bad_row.result c.map_err.ensures.cases c.in_err-count.was in
    rw (raised c.from_residual.ensures.1, same) (stores_term x c.if-not-fits.false (checked_bad _ _ c.first_bad_row.ensures bad))

pub overflow_cast-used : goal.overflow_cast-used
overflow_cast-used c =
    let found = mapped_ok BadTerm c.map_err.result c.first_bad_row.result c.map_err.ensures.cases c.in_ok-count.was in
    let counted = checked_used c.args.terms.now _ c.first_bad_row.ensures found in
    let fits = simp (both, at_most) at (true_holds c.if-not-fits.false) in
    omega (arith, counted.1, (used_rows_lem c.args.terms.now).inside, fits.0.1)

pub returns-then-valid : goal.returns-then-valid
returns-then-valid c =
    let x : Lent = lent c.args.kinds.now c.args.objects.now c.args.named.now c.args.certificates.now c.args.accumulator c.args.terms.now c.args.counter in
    let found = mapped_ok BadTerm c.map_err.result c.first_bad_row.result c.map_err.ensures.cases c.in_ok-count.was in
    let counted = checked_used c.args.terms.now _ c.first_bad_row.ensures found in
    stores_accepted x c.if-not-fits.false counted.0 counted.1 (rw (← counted.1) (sym c.valid.ensures ∙ c.if-valid.true))

pub returns-else-valid : goal.returns-else-valid
returns-else-valid c =
    let x : Lent = lent c.args.kinds.now c.args.objects.now c.args.named.now c.args.certificates.now c.args.accumulator c.args.terms.now c.args.counter in
    let found = mapped_ok BadTerm c.map_err.result c.first_bad_row.result c.map_err.ensures.cases c.in_ok-count.was in
    let counted = checked_used c.args.terms.now _ c.first_bad_row.ensures found in
    stores_bad x c.if-not-fits.false counted.0 (rw (← counted.1) (sym c.valid.ensures ∙ c.if-valid.false))
