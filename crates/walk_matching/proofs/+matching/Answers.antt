use mathlib.Core.Path.{refl, sym, ◌∙◌}
use native.Mathlib.Omega.{arith}
use Rattle.numbers.specs.Kinds.{kind_in}
use Rattle.patterns.proofs.StandingLaws.{slot, stands_below, encryption_child, let_children}
use Rattle.walks.proofs.AskedLaws.{asked_given, asked_ends, set_read, set_ends}
use Rattle.walk_matching.proofs.LeafLaws.{variable_inside}
use Rattle.walk_matching.proofs.WalkLaws.{within_met, encryption_wrong, encryption_ended, encryption_within, encryption_done, tuple_ended}
use Rattle.walk_matching.proofs.WalkLaws.{tuple_within, tuple_in_hand, let_set, let_ended, let_within, let_unset, let_done}
use Rattle.walk_matching.proofs.WalkLaws.{tuple_few, tuple_parts, tuple_not, tuple_done, parts_none, parts_more, parts_end, parts_ended}
use borrow.Author.Rules.{rules}
use Rattle.walk_matching.proofs.+matching.Goals as goal

pub match_encryption-returns-then-key_form-ne-PLAIN_KEY : goal.match_encryption-returns-then-key_form-ne-PLAIN_KEY
match_encryption-returns-then-key_form-ne-PLAIN_KEY t c =
    encryption_wrong _ (kind_in c.args.ground.now.kinds.now) _ _ _ _ _ _ _ c.requires.stands_at c.requires.word_value _ c.key_form.ensures c.if-key_form-ne-PLAIN_KEY.true

pub match_encryption-open-requires : goal.match_encryption-open-requires
match_encryption-open-requires t c =
    record { within = c.requires.within; e_in_bounds = variable_inside _ (search rules) _ _ c.variable-e.ensures }

pub match_encryption-match_row-requires : goal.match_encryption-match_row-requires
match_encryption-match_row-requires t c =
    let low = encryption_child c.requires.stands_at _ (slot _ _ 0 c.slots-children.ensures) c.requires.word_value in
    let within = encryption_within _ (kind_in c.args.ground.now.kinds.now) c.args.ground.now.certificates.now _ _ c.args.cells.now.named _ _ _ c.requires.stands_at c.requires.word_value _
    c.key_form.ensures c.if-key_form-ne-PLAIN_KEY.false _ _ c.variable-e.ensures c.key.ensures c.open.ensures _ c.in_ok-inner.was c.requires.within in
    (omega (arith, c.decreases, low), (stands_below c.requires.stands_at.stands low, within))

pub match_encryption-returns-in_err-inner : goal.match_encryption-returns-in_err-inner
match_encryption-returns-in_err-inner t c =
    encryption_ended _ (kind_in c.args.ground.now.kinds.now) _ _ _ _ _ _ _ c.requires.stands_at c.requires.word_value _ c.key_form.ensures c.if-key_form-ne-PLAIN_KEY.false _ _
    c.variable-e.ensures c.key.ensures c.open.ensures c.in_err-inner.was c.from_residual.ensures.1

pub match_encryption-returns : goal.match_encryption-returns
match_encryption-returns t c =
    encryption_done _ (kind_in c.args.ground.now.kinds.now) _ _ _ _ _ _ _ c.requires.stands_at c.requires.word_value _ c.key_form.ensures c.if-key_form-ne-PLAIN_KEY.false _ _
    c.variable-e.ensures c.key.ensures c.open.ensures _ c.in_ok-inner.was _ c.slots-children.ensures c.match_row.ensures

pub match_let-returns-then-known : goal.match_let-returns-then-known
match_let-returns-then-known t c =
    let_set _ (kind_in c.args.ground.now.kinds.now) _ _ _ _ _ _ _ c.requires.stands_at c.requires.word_value _ c.raw-r.ensures _ c.message_at-known.ensures c.if-known.true

pub match_let-match_row-requires : goal.match_let-match_row-requires
match_let-match_row-requires t c =
    let slots = c.slots-children.ensures in
    let low = (let_children c.requires.stands_at _ (slot _ _ 0 slots) _ (slot _ _ 1 slots) c.requires.word_value).1 in
    (omega (arith, c.decreases, low), (stands_below c.requires.stands_at.stands low, c.requires.within))

pub match_let-returns-in_err-bound : goal.match_let-returns-in_err-bound
match_let-returns-in_err-bound t c =
    let (e, ends) = set_ends c.args.row c.set_row.ensures c.asked_at.ensures c.in_err-bound.was c.from_residual-in_err-bound.ensures.1 in
    rw ends
    (let_unset _ (kind_in c.args.ground.now.kinds.now) _ _ _ _ _ _ _ c.requires.stands_at c.requires.word_value _ c.raw-r.ensures _ c.message_at-known.ensures c.if-known.false _
    c.slots-children.ensures c.match_row.ensures _ c.in_ok-after.was _ c.message_at.ensures e)

pub match_let-match_row-requires-2 : goal.match_let-match_row-requires-2
match_let-match_row-requires-2 t c =
    let slots = c.slots-children.ensures in
    let low = (let_children c.requires.stands_at _ (slot _ _ 0 slots) _ (slot _ _ 1 slots) c.requires.word_value).0 in
    let within = let_within _ (kind_in c.args.ground.now.kinds.now) _ _ _ _ _ _ _ c.requires.stands_at c.requires.word_value _ c.raw-r.ensures _ c.message_at-known.ensures c.if-known.false _ slots
    c.match_row.ensures _ c.in_ok-after.was c.requires.within in
    (omega (arith, c.decreases, low), (stands_below c.requires.stands_at.stands low, within_met c.meeting-met.ensures within))

pub match_let-returns-in_err-after : goal.match_let-returns-in_err-after
match_let-returns-in_err-after t c =
    let_ended _ (kind_in c.args.ground.now.kinds.now) _ _ _ _ _ _ _ c.requires.stands_at c.requires.word_value _ c.raw-r.ensures _ c.message_at-known.ensures c.if-known.false _
    c.slots-children.ensures c.match_row.ensures c.in_err-after.was c.from_residual.ensures.1

pub match_let-returns : goal.match_let-returns
match_let-returns t c =
    let (is_row, read) = set_read c.args.row c.set_row.ensures c.asked_at.ensures c.message_at.ensures c.in_ok-bound.was in
    let_done _ (kind_in c.args.ground.now.kinds.now) _ _ _ _ _ _ _ c.requires.stands_at c.requires.word_value _ c.raw-r.ensures _ c.message_at-known.ensures c.if-known.false _ c.slots-children.ensures
    c.match_row.ensures _ c.in_ok-after.was _ read is_row _ c.meeting-met.ensures c.match_row-2.ensures

pub match_row-match_encryption-requires : goal.match_row-match_encryption-requires
match_row-match_encryption-requires t c =
    (omega (arith, c.decreases), (record { here = refl; stands = c.requires.stands }, (sym c.tag.ensures ∙ c.in-5.is, c.requires.within)))

pub match_row-match_tuple-requires : goal.match_row-match_tuple-requires
match_row-match_tuple-requires t c =
    (omega (arith, c.decreases), (record { here = refl; stands = c.requires.stands }, (sym c.tag.ensures ∙ c.in-8.is, c.requires.within)))

pub match_row-match_let-requires : goal.match_row-match_let-requires
match_row-match_let-requires t c =
    (omega (arith, c.decreases), (record { here = refl; stands = c.requires.stands }, (sym c.tag.ensures ∙ c.in-9.is, c.requires.within)))

pub match_row-match_leaf-requires : goal.match_row-match_leaf-requires
match_row-match_leaf-requires t c =
    record {
      stands_at = record { here = refl; stands = c.requires.stands };
      leaf = record { encryption = λ h. omega arith; tuple = λ h. omega arith; let_in = λ h. omega arith };
      within = c.requires.within;
    }

pub match_row-returns-in-5 : goal.match_row-returns-in-5
match_row-returns-in-5 t c = c.match_encryption.ensures

pub match_row-returns-in-8 : goal.match_row-returns-in-8
match_row-returns-in-8 t c = c.match_tuple.ensures

pub match_row-returns-in-9 : goal.match_row-returns-in-9
match_row-returns-in-9 t c = c.match_let.ensures

pub match_row-returns-in_default : goal.match_row-returns-in_default
match_row-returns-in_default t c = c.match_leaf.ensures

pub match_tuple-decode-requires : goal.match_tuple-decode-requires
match_tuple-decode-requires t c =
    record { within = c.requires.within; v_in_bounds = variable_inside _ (search rules) _ _ c.variable.ensures }

pub match_tuple-returns-in_err-inner : goal.match_tuple-returns-in_err-inner
match_tuple-returns-in_err-inner t c =
    tuple_ended _ (kind_in c.args.ground.now.kinds.now) _ _ _ _ _ _ _ c.requires.stands_at c.requires.word_value _ c.variable.ensures c.decode.ensures c.in_err-inner.was c.from_residual.ensures.1

pub match_tuple-returns-in_err-parts : goal.match_tuple-returns-in_err-parts
match_tuple-returns-in_err-parts t c =
    let (reason, refused, ends) = asked_ends c.args.row c.parts.result c.asked_at.ensures c.in_err-parts.was c.from_residual-in_err-parts.ensures.1 in
    rw ends (tuple_not _ (kind_in c.args.ground.now.kinds.now) _ _ _ _ _ _ _ c.requires.stands_at c.requires.word_value _ c.variable.ensures c.decode.ensures _ c.in_ok-inner.was _ c.count-n.ensures _
    c.slots-children.ensures c.parts.ensures _ refused)

pub match_tuple-slice_bounds-children-end : goal.match_tuple-slice_bounds-children-end
match_tuple-slice_bounds-children-end t c =
    tuple_few c.requires.stands_at c.requires.word_value _ c.count-n.ensures _ c.slots-children.ensures

pub match_tuple-loop-slot-init : goal.match_tuple-loop-slot-init
match_tuple-loop-slot-init t c =
    parts_none _ _ _ _ _ _
    (tuple_in_hand _ (kind_in c.args.ground.now.kinds.now) c.args.ground.now.certificates.now _ _ c.args.cells.now.named _ _ _ c.requires.stands_at c.requires.word_value _ c.variable.ensures
    c.decode.ensures _ c.in_ok-inner.was)
    (tuple_within _ (kind_in c.args.ground.now.kinds.now) c.args.ground.now.certificates.now _ _ c.args.cells.now.named _ _ _ c.requires.stands_at c.requires.word_value _ c.variable.ensures
    c.decode.ensures _ c.in_ok-inner.was c.requires.within)

pub match_tuple-part-requires : goal.match_tuple-part-requires
match_tuple-part-requires t c =
    let asks = tuple_parts c.requires.stands_at c.requires.word_value _ c.count-n.ensures _ c.slots-children.ensures in
    omega (arith, asks.few, c.loop-slot-test.true)

pub match_tuple-match_row-requires : goal.match_tuple-match_row-requires
match_tuple-match_row-requires t c =
    let asks = tuple_parts c.requires.stands_at c.requires.word_value _ c.count-n.ensures _ c.slots-children.ensures in
    let low = asks.below _ c.loop-slot-test.true in
    (omega (arith, c.decreases, low), (stands_below asks.stands low, within_met c.meeting-met.ensures c.loop-slot.invariant.within))

pub match_tuple-returns-in_err-here : goal.match_tuple-returns-in_err-here
match_tuple-returns-in_err-here t c =
    let taken = asked_given c.args.row c.parts.result c.asked_at.ensures c.in_ok-parts.was in
    let ended = parts_ended _ _ _ _ _ _ _ _ _ c.loop-slot.invariant c.loop-slot-test.true _ c.part.ensures _ c.meeting-met.ensures c.match_row.ensures c.in_err-here.was
    c.from_residual-in_err-here.ensures.1 in
    tuple_done _ (kind_in c.args.ground.now.kinds.now) _ _ _ _ _ _ _ c.requires.stands_at c.requires.word_value _ c.variable.ensures c.decode.ensures _ c.in_ok-inner.was _ c.count-n.ensures _
    c.slots-children.ensures c.parts.ensures _ taken ended

pub match_tuple-loop-slot-preserved : goal.match_tuple-loop-slot-preserved
match_tuple-loop-slot-preserved t c =
    parts_more _ _ _ _ _ _ _ _ _ c.loop-slot.invariant c.loop-slot-test.true _ c.part.ensures _ c.meeting-met.ensures c.match_row.ensures _ c.in_ok-here.was

pub match_tuple-returns : goal.match_tuple-returns
match_tuple-returns t c =
    let taken = asked_given c.args.row c.parts.result c.asked_at.ensures c.in_ok-parts.was in
    tuple_done _ (kind_in c.args.ground.now.kinds.now) _ _ _ _ _ _ _ c.requires.stands_at c.requires.word_value _ c.variable.ensures c.decode.ensures _ c.in_ok-inner.was _ c.count-n.ensures _
    c.slots-children.ensures c.parts.ensures _ taken (parts_end _ _ _ _ _ _ _ _ _ c.loop-slot.invariant c.loop-slot-test.false)
