-- `leaf_matching::stages::same_as` meets its contract, a way out at a time.
use Rattle.walks.proofs.AskedLaws.{asked_given, asked_ends}
use Rattle.leaf_matching.proofs.StageLaws.{stage_ended, same_not, same_holds}
use Rattle.leaf_matching.proofs.stages.same_as.Goals as goal

pub returns-in_err-walk : goal.returns-in_err-walk
returns-in_err-walk c = λ kind. stage_ended c.in_err-walk.was c.from_residual.ensures.1

pub returns-in_err-asked_at : goal.returns-in_err-asked_at
returns-in_err-asked_at c =
    let (reason, refused, ends) = asked_ends c.args.row c.same.result c.asked_at.ensures c.in_err-asked_at.was c.from_residual-in_err-asked_at.ensures.1 in
    λ kind. rw ends (same_not _ _ kind _ c.in_ok-walk.was c.same.ensures _ refused)

pub returns : goal.returns
returns c =
    let holds = asked_given c.args.row c.same.result c.asked_at.ensures c.in_ok-asked_at.was in
    λ kind. same_holds _ _ kind _ c.in_ok-walk.was c.same.ensures holds
