use mathlib.Core.Bool.{not}
use mathlib.Core.Path.{sym, ap}
use lib.Seq.{length-take-le}
use Rattle.bundles.specs.Opening.{bundle_in}
use Rattle.bundles.proofs.BundleLaws.{lengths}
use Rattle.outcomes.proofs.PartLaws.{front_length, front_inside}
use Rattle.outcomes.proofs.GivenLaws.{spare_set, spare_clear, compile_refuses, compile_runs, words_fit}
use Rattle.outcomes.proofs.given_by_bundle.Goals as goal

pub slice_bounds-pairs-end : goal.slice_bounds-pairs-end
slice_bounds-pairs-end c = front_inside _ _ c.certificates-pairs.ensures (lengths _ _ c.requires.0).certificates

pub slice_bounds-certificates_clear-end : goal.slice_bounds-certificates_clear-end
slice_bounds-certificates_clear-end c = front_length _ _ c.certificates-pairs.ensures (lengths _ _ c.requires.0).certificates

pub returns-then-not-certificates_clear : goal.returns-then-not-certificates_clear
returns-then-not-certificates_clear c =
    let args = c.args in
    spare_set args.bytes.now c.certificates-pairs.ensures c.certificates_clear.ensures args.code.now
    args.objects.now args.messages.now args.rows.now (ap not c.if-not-certificates_clear.true)

pub returns-in_default : goal.returns-in_default
returns-in_default c =
    let args = c.args in
    spare_clear args.bytes.now c.certificates-pairs.ensures c.certificates_clear.ensures
    args.code.now args.objects.now args.messages.now args.rows.now (ap not c.if-not-certificates_clear.false)
    (compile_refuses (bundle_in args.bytes.now) c.requires.1 c.compiled-answer.ensures
    args.objects.now args.messages.now args.rows.now c.number-number.ensures.0 c.place-place.ensures c.in_default.not-Done)

pub slice_bounds-ran-end : goal.slice_bounds-ran-end
slice_bounds-ran-end c = (words_fit _ _ c.requires.0 c.requires.1 c.compiled-answer.auto.code c.compiled-answer.ensures c.in-Done.is).0

pub slice_bounds-ran-end-2 : goal.slice_bounds-ran-end-2
slice_bounds-ran-end-2 c =
    sym (length-take-le c.in-Done.words _ (words_fit _ _ c.requires.0 c.requires.1 c.compiled-answer.auto.code c.compiled-answer.ensures c.in-Done.is).0)

pub ran-ended-requires : goal.ran-ended-requires
ran-ended-requires c =
    let fits = words_fit _ _ c.requires.0 c.requires.1 c.compiled-answer.auto.code c.compiled-answer.ensures c.in-Done.is in
    (c.requires.0, fits.1, c.requires.2, c.requires.3, c.requires.4)

pub returns : goal.returns
returns c =
    let args = c.args in
    let fits = words_fit _ _ c.requires.0 c.requires.1 c.compiled-answer.auto.code c.compiled-answer.ensures c.in-Done.is in
    spare_clear args.bytes.now c.certificates-pairs.ensures c.certificates_clear.ensures
    args.code.now args.objects.now args.messages.now args.rows.now (ap not c.if-not-certificates_clear.false)
    (compile_runs (bundle_in args.bytes.now) c.requires.1 c.compiled-answer.ensures
    args.objects.now args.messages.now args.rows.now c.in-Done.is fits.0 c.ran-ended.ensures.0 c.ran-ended.ensures.1)
