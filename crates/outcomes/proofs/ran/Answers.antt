use native.Mathlib.Omega.{arith}
use Rattle.bundles.proofs.BundleLaws.{fields, lengths}
use Rattle.outcomes.proofs.PartLaws.{run_lent, ran_counted, objects_lent, messages_lent, terms_lent, front_length, front_inside}
use Rattle.outcomes.proofs.ran.Goals as goal

pub term_rows-requires : goal.term_rows-requires
term_rows-requires c = (
  c.requires.0,
  omega (
    arith,
    (fields _ _
        c.requires.0).limits.1,
    c.requires.4,
  ),
)

pub slice_bounds-pairs-end : goal.slice_bounds-pairs-end
slice_bounds-pairs-end c = front_inside _ _
    c.certificates-pairs.ensures
    (lengths _ _ c.requires.0).certificates

pub slice_bounds-run-end-2 : goal.slice_bounds-run-end-2
slice_bounds-run-end-2 c = front_length _ _
    c.certificates-pairs.ensures
    (lengths _ _ c.requires.0).certificates

pub returns : goal.returns
returns c =
    let pre = c.requires
    in
    let args = c.args
    in
    let lent =
    run_lent _ pre.0 _
    c.kinds-kinds.ensures
    (objects_lent _ pre.0 args.objects.now pre.2
    c.object_cells.ensures)
    (messages_lent _ pre.0 args.messages.now pre.3
    c.message_cells.ensures)
    c.certificates-pairs.ensures
    (terms_lent _ pre.0 args.rows.now pre.4 c.term_rows.ensures)
    c.run.ensures.0 in
    (lent, ran_counted _ pre.0 _ pre.1 lent c.run.ensures.1)
