-- The checks' refusal stands for the half's.
use Rattle.std.proofs.lemmas.Result.{err_from_is_err_and}
use Rattle.knowing.proofs.FindingLaws.{found_some}
use Rattle.compiler.proofs.WalkLaws.{refused_known}
use Rattle.compiler.proofs.emit.Goals as goal

pub returns-in_err-look : goal.returns-in_err-look
returns-in_err-look c =
    let p = err_from_is_err_and c.from_residual.result c.from_residual.ensures.1 in
    rw (p.1, p.2) (refused_known _ _ _ _ _ _ (found_some _ c.in_err-look.ensures))
