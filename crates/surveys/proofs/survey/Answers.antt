-- The checks leave a root row to stand at; what the looks hold is what emission is refused with.
use mathlib.Core.Path.{◌∙◌}
use Rattle.word.proofs.CopyLaws.{laid}
use Rattle.knowing.specs.Known.{known}
use Rattle.calls.proofs.HalfLaws.{known_passed}
use Rattle.layout.proofs.RowLaws.{root_pattern, root_stands}
use Rattle.surveys.proofs.FoundLaws.{pattern_found}
use Rattle.surveys.proofs.survey.Goals as goal

pub lay_rows-requires : goal.lay_rows-requires
lay_rows-requires c = (known_passed c.args.create c.args.pattern.now c.args.kinds.now (known c.args.objects) c.requires).lengths.most

pub overflow_sub-root : goal.overflow_sub-root
overflow_sub-root c = (known_passed c.args.create c.args.pattern.now c.args.kinds.now (known c.args.objects) c.requires).lengths.least

pub all_kinds-all-requires : goal.all_kinds-all-requires
all_kinds-all-requires c = (known_passed c.args.create c.args.pattern.now c.args.kinds.now (known c.args.objects) c.requires).lengths.kinds_length

pub survey_row-requires : goal.survey_row-requires
survey_row-requires c =
    let passed = known_passed c.args.create c.args.pattern.now c.args.kinds.now (known c.args.objects) c.requires in
    rw (laid c.args.pattern.now 96 0 c.no_rows-rows.ensures c.lay_rows.ensures)
    (root_stands c.args.pattern.now passed.lengths.least passed.lengths.most passed.rows_good)

pub returns : goal.returns
returns c =
    let passed = known_passed c.args.create c.args.pattern.now c.args.kinds.now (known c.args.objects) c.requires in
    let d = rw (laid c.args.pattern.now 96 0 c.no_rows-rows.ensures c.lay_rows.ensures, c.all_kinds-all.ensures, c.emission_from-emission.ensures) at c.survey_row.ensures in
    c.found.ensures ∙ pattern_found c.args.create c.args.pattern.now c.args.kinds.now (root_pattern c.args.pattern.now passed.lengths.least passed.lengths.most) d
