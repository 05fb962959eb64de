-- `leaf_matching::forms::match_raw` meets its contract, a way out at a time.
use Rattle.walks.proofs.AskedLaws.{set_given, set_ends}
use Rattle.leaf_matching.proofs.FormLaws.{raw_no_message, raw_stored, raw_same}
use Rattle.leaf_matching.proofs.forms.match_raw.Goals as goal

pub returns-in_err-message : goal.returns-in_err-message
returns-in_err-message c =
    let (e, ends) = set_ends c.args.row c.set_row.ensures c.asked_at.ensures c.in_err-message.was c.from_residual.ensures.1 in
    λ kind. rw ends (raw_no_message _ _ _ _ c.requires.r_lt_named_cells _ c.message_at-known.ensures kind e)

pub returns-then-known : goal.returns-then-known
returns-then-known c =
    let (is_row, same) = set_given c.args.row c.set_row.ensures c.asked_at.ensures c.in_ok-message.was in
    λ kind. raw_stored _ _ _ _ c.requires.r_lt_named_cells _ c.message_at-known.ensures kind (rw same at is_row) c.if-known.true c.requires.r_in_bounds (rw same at c.set_message.ensures)

pub returns : goal.returns
returns c =
    let (is_row, same) = set_given c.args.row c.set_row.ensures c.asked_at.ensures c.in_ok-message.was in
    λ kind. raw_same _ _ _ _ c.requires.r_lt_named_cells _ c.message_at-known.ensures kind (rw same at is_row) c.if-known.false c.same_as.ensures
