use mathlib.Core.Bool.{not}
use mathlib.Core.Path.{ap}
use native.Mathlib.Omega.{arith}
use borrow.Author.Tests.{not-true, not-false}
use Rattle.patterns.proofs.StandingLaws.{slot, stands_below, encryption_child, let_children, variable_low}
use Rattle.surveys.proofs.ChildLaws.{encryption_created, encryption_matched, encryption_wrong, let_created, let_matched}
use Rattle.surveys.proofs.PartLaws.{parts_next, parts_end, tuple_children, tuple_created, tuple_matched}
use Rattle.surveys.proofs.+surveying.Goals as goal

pub survey_encryption-survey_row-requires : goal.survey_encryption-survey_row-requires
survey_encryption-survey_row-requires t c =
    let below = encryption_child c.requires.stands_at _ (slot _ _ 0 c.slots-children.ensures) c.requires.word_value in
    (omega (arith, c.decreases, below), stands_below c.requires.stands_at.stands below)

pub survey_encryption-write_object-requires : goal.survey_encryption-write_object-requires
survey_encryption-write_object-requires t c = variable_low _ _ c.variable-e.ensures

pub survey_encryption-write_object-requires-then-key_form-eq-PLAIN_KEY : goal.survey_encryption-write_object-requires-then-key_form-eq-PLAIN_KEY
survey_encryption-write_object-requires-then-key_form-eq-PLAIN_KEY t c = variable_low _ _ c.variable-e.ensures

pub survey_encryption-survey_row-requires-then-key_form-eq-PLAIN_KEY : goal.survey_encryption-survey_row-requires-then-key_form-eq-PLAIN_KEY
survey_encryption-survey_row-requires-then-key_form-eq-PLAIN_KEY t c =
    let below = encryption_child c.requires.stands_at _ (slot _ _ 0 c.slots-children.ensures) c.requires.word_value in
    (omega (arith, c.decreases, below), stands_below c.requires.stands_at.stands below)

pub survey_encryption-returns-then-create : goal.survey_encryption-returns-then-create
survey_encryption-returns-then-create t c =
    encryption_created _ _ _ c.requires.stands_at c.requires.word_value _ (slot _ _ 0 c.slots-children.ensures) _
    c.variable-e.ensures c.if-create.true
    c.create_key.ensures c.survey_row.ensures c.write_object.ensures

pub survey_encryption-returns-then-key_form-eq-PLAIN_KEY : goal.survey_encryption-returns-then-key_form-eq-PLAIN_KEY
survey_encryption-returns-then-key_form-eq-PLAIN_KEY t c =
    encryption_matched _ _ _ c.requires.stands_at c.requires.word_value _
    (slot _ _ 0 c.slots-children.ensures) _
    c.variable-e.ensures _ _ c.key.ensures
    c.key_form.ensures
    c.if-create.false c.if-key_form-eq-PLAIN_KEY.true
    c.write_object-then-key_form-eq-PLAIN_KEY.ensures c.read_object.ensures c.survey_row-then-key_form-eq-PLAIN_KEY.ensures

pub survey_encryption-returns-else-key_form-eq-PLAIN_KEY : goal.survey_encryption-returns-else-key_form-eq-PLAIN_KEY
survey_encryption-returns-else-key_form-eq-PLAIN_KEY t c =
    encryption_wrong _ _ _ c.requires.stands_at c.requires.word_value _ (slot _ _ 0 c.slots-children.ensures) _
    c.key_form.ensures c.if-create.false c.if-key_form-eq-PLAIN_KEY.false c.wrong_kind.ensures

pub survey_let-survey_row-requires : goal.survey_let-survey_row-requires
survey_let-survey_row-requires t c =
    let below = (let_children c.requires.stands_at _ (slot _ _ 0 c.slots-children.ensures) _ (slot _ _ 1 c.slots-children.ensures) c.requires.word_value).0 in
    (omega (arith, c.decreases, below), stands_below c.requires.stands_at.stands below)

pub survey_let-survey_row-requires-then-create : goal.survey_let-survey_row-requires-then-create
survey_let-survey_row-requires-then-create t c =
    let below = (let_children c.requires.stands_at _ (slot _ _ 0 c.slots-children.ensures) _ (slot _ _ 1 c.slots-children.ensures) c.requires.word_value).1 in
    (omega (arith, c.decreases, below), stands_below c.requires.stands_at.stands below)

pub survey_let-survey_row-requires-else-create : goal.survey_let-survey_row-requires-else-create
survey_let-survey_row-requires-else-create t c =
    let below = (let_children c.requires.stands_at _ (slot _ _ 0 c.slots-children.ensures) _ (slot _ _ 1 c.slots-children.ensures) c.requires.word_value).1 in
    (omega (arith, c.decreases, below), stands_below c.requires.stands_at.stands below)

pub survey_let-survey_row-requires-else-create-2 : goal.survey_let-survey_row-requires-else-create-2
survey_let-survey_row-requires-else-create-2 t c =
    let below = (let_children c.requires.stands_at _ (slot _ _ 0 c.slots-children.ensures) _ (slot _ _ 1 c.slots-children.ensures) c.requires.word_value).0 in
    (omega (arith, c.decreases, below), stands_below c.requires.stands_at.stands below)

pub survey_let-returns-then-create : goal.survey_let-returns-then-create
survey_let-returns-then-create t c =
    let_created _ _ _ c.requires.stands_at c.requires.word_value _ (slot _ _ 0 c.slots-children.ensures) _
    (slot _ _ 1 c.slots-children.ensures) _ c.raw-r.ensures
    c.if-create.true
    c.survey_row.ensures c.write_raw.ensures c.survey_row-then-create.ensures

pub survey_let-returns-else-create : goal.survey_let-returns-else-create
survey_let-returns-else-create t c =
    let_matched _ _ _ c.requires.stands_at c.requires.word_value _ (slot _ _ 0 c.slots-children.ensures) _
    (slot _ _ 1 c.slots-children.ensures) _
    c.raw-r.ensures
    c.if-create.false
    c.free_raw.ensures c.survey_row-else-create.ensures c.read_raw.ensures
    c.survey_row-else-create-2.ensures

pub survey_parts-loop-child-preserved : goal.survey_parts-loop-child-preserved
survey_parts-loop-child-preserved t c = parts_next _ _ _ _ _ c.loop-child.invariant c.loop-child-test.true c.survey_row.ensures

pub survey_parts-returns : goal.survey_parts-returns
survey_parts-returns t c = parts_end _ _ _ _ _ c.loop-child.invariant c.loop-child-test.false

pub survey_tuple-write_object-requires : goal.survey_tuple-write_object-requires
survey_tuple-write_object-requires t c = variable_low _ _ c.variable-t.ensures

pub survey_tuple-survey_parts-requires : goal.survey_tuple-survey_parts-requires
survey_tuple-survey_parts-requires t c =
    (omega (arith, c.decreases), tuple_children _ _ _ c.requires.stands_at c.requires.word_value _ c.slots-slots.ensures _ c.count-n.ensures)

pub survey_tuple-survey_parts-requires-else-not-create : goal.survey_tuple-survey_parts-requires-else-not-create
survey_tuple-survey_parts-requires-else-not-create t c =
    (omega (arith, c.decreases), tuple_children _ _ _ c.requires.stands_at c.requires.word_value _ c.slots-slots.ensures _ c.count-n.ensures)

pub survey_tuple-write_object-requires-else-not-create : goal.survey_tuple-write_object-requires-else-not-create
survey_tuple-write_object-requires-else-not-create t c = variable_low _ _ c.variable-t.ensures

pub survey_tuple-returns-then-not-create : goal.survey_tuple-returns-then-not-create
survey_tuple-returns-then-not-create t c =
    tuple_matched _ _ _ c.requires.stands_at c.requires.word_value _ c.slots-slots.ensures _
    c.count-n.ensures _ c.variable-t.ensures c.args.create
    c.args.kinds.now (not-true c.args.create (ap not c.if-not-create.true)) c.write_object.ensures c.survey_parts.ensures

pub survey_tuple-returns-else-not-create : goal.survey_tuple-returns-else-not-create
survey_tuple-returns-else-not-create t c =
    tuple_created _ _ _ c.requires.stands_at c.requires.word_value _ c.slots-slots.ensures _
    c.count-n.ensures _ c.variable-t.ensures c.args.create
    c.args.kinds.now (not-false c.args.create (ap not c.if-not-create.false)) c.survey_parts-else-not-create.ensures c.write_object-else-not-create.ensures
