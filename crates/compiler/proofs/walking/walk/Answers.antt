-- The checks leave a root row with room for its code; what the walk leaves is compile's outcome.
use native.Mathlib.Omega.{arith}
use Rattle.std.proofs.lemmas.Result.{err_from_is_err_and}
use Rattle.word.proofs.CopyLaws.{laid}
use Rattle.knowing.specs.Known.{known}
use Rattle.knowing.proofs.FindingLaws.{found_some, found_none}
use Rattle.calls.proofs.HalfLaws.{known_passed}
use Rattle.layout.proofs.RowLaws.{root_pattern}
use Rattle.compiler.proofs.RowLaws.{root_row, root_words}
use Rattle.compiler.proofs.WalkLaws.{walked_done, walked_refused}
use Rattle.compiler.proofs.walking.walk.Goals as goal

pub lay_rows-requires : goal.lay_rows-requires
lay_rows-requires c =
    let passed = known_passed c.args.create c.args.pattern.now c.args.kinds.now (known c.args.objects) c.requires in
    passed.lengths.most

pub overflow_sub-root : goal.overflow_sub-root
overflow_sub-root c = (known_passed c.args.create c.args.pattern.now c.args.kinds.now (known c.args.objects) c.requires).lengths.least

pub all_kinds-all-requires : goal.all_kinds-all-requires
all_kinds-all-requires c = (known_passed c.args.create c.args.pattern.now c.args.kinds.now (known c.args.objects) c.requires).lengths.kinds_length

pub emit_row-requires : goal.emit_row-requires
emit_row-requires c =
    let passed = known_passed c.args.create c.args.pattern.now c.args.kinds.now (known c.args.objects) c.requires in
    rw (laid c.args.pattern.now 96 0 c.no_rows-rows.ensures c.lay_rows.ensures, c.emission_from-emission.ensures)
    (root_row c.args.pattern.now passed.lengths.least passed.lengths.most passed.rows_good _ _)

pub overflow_cast-result : goal.overflow_cast-result
overflow_cast-result c =
    let passed = known_passed c.args.create c.args.pattern.now c.args.kinds.now (known c.args.objects) c.requires in
    let d = rw (laid c.args.pattern.now 96 0 c.no_rows-rows.ensures c.lay_rows.ensures, c.emission_from-emission.ensures) at c.emit_row.ensures in
    record { fits = omega (arith, d.place, root_words c.args.pattern.now passed.lengths.least passed.lengths.most passed.rows_good) }

pub returns-in_err-found : goal.returns-in_err-found
returns-in_err-found c =
    let passed = known_passed c.args.create c.args.pattern.now c.args.kinds.now (known c.args.objects) c.requires in
    let d = rw (laid c.args.pattern.now 96 0 c.no_rows-rows.ensures c.lay_rows.ensures, c.all_kinds-all.ensures, c.emission_from-emission.ensures) at c.emit_row.ensures in
    let p = err_from_is_err_and c.from_residual.result c.from_residual.ensures.1 in
    rw (p.1, p.2)
    (walked_refused c.args.create c.args.pattern.now c.args.kinds.now c.requires (root_pattern c.args.pattern.now passed.lengths.least passed.lengths.most) d
    (found_some _ c.in_err-found.ensures))

pub returns : goal.returns
returns c =
    let passed = known_passed c.args.create c.args.pattern.now c.args.kinds.now (known c.args.objects) c.requires in
    let d = rw (laid c.args.pattern.now 96 0 c.no_rows-rows.ensures c.lay_rows.ensures, c.all_kinds-all.ensures, c.emission_from-emission.ensures) at c.emit_row.ensures in
    walked_done c.args.create c.args.pattern.now c.args.kinds.now c.requires (root_pattern c.args.pattern.now passed.lengths.least passed.lengths.most) d
    (omega (arith, root_words c.args.pattern.now passed.lengths.least passed.lengths.most passed.rows_good)) (found_none _ c.in_ok-found.ensures)
