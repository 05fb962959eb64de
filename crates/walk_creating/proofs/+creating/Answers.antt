-- The cycle of `create_row` meets its contracts: the row number falls at each child.
use Rattle.std.proofs.lemmas.List.{length-take}
use mathlib.Core.Path.{◌≡◌, refl, sym, ◌∙◌}
use mathlib.Core.List.{[]}
use native.Mathlib.Omega.{arith}
use lib.ListN.{length}
use Rattle.numbers.specs.Limits.{variables, named_cells}
use Rattle.machine.specs.Machine.{slices}
use Rattle.patterns.proofs.StandingLaws.{slot, stands_below, encryption_key, encryption_child, let_children, variable_low}
use Rattle.walk_values.proofs.ThenLaws.{next_kept, next_within}
use Rattle.walk_leaves.proofs.FormLaws.{key_asks, raw_low}
use Rattle.walk_creating.proofs.ChildLaws.{key_ended, part_ended, part_sealed, let_ended, let_set, let_second}
use Rattle.walk_creating.proofs.PartLaws.{tuple_few, front_length, front_slot, part_low, gathered_none, gathered_more, tuple_ended, tuple_made}
use borrow.Author.Rules.{rules}
use Rattle.walk_creating.proofs.+creating.Goals as goal

pub create_encryption-create_key-requires : goal.create_encryption-create_key-requires
create_encryption-create_key-requires t c = let s = c.requires in record { word_bound = encryption_key s.stands_at s.word_value; within = s.within; objects_len = search rules }

pub create_encryption-create_row-requires : goal.create_encryption-create_row-requires
create_encryption-create_row-requires t c =
    let s = c.requires in
    let low = encryption_child s.stands_at _ (slot _ _ 0 c.slots-children.ensures) s.word_value in
    let asked = key_asks _ _ _ _ _ _ _ _ _ _ c.create_key.ensures _ c.in_ok-next.was s.within (search rules) in
    (omega (arith, c.decreases, low), (stands_below s.stands_at.stands low, asked.0))

pub create_encryption-seal-requires : goal.create_encryption-seal-requires
create_encryption-seal-requires t c =
    let s = c.requires in
    let asked = key_asks _ _ _ _ _ _ _ _ _ _ c.create_key.ensures _ c.in_ok-next.was s.within (search rules) in
    let long : length c.create_row.new.cells.objects ≡ variables = search rules in record {
      within = next_within c.create_row.ensures c.in_ok-last.was asked.0;
      v_in_bounds = omega (arith, long, variable_low _ _ c.variable-e.ensures);
    }

pub create_encryption-shape_of-terms : goal.create_encryption-shape_of-terms
create_encryption-shape_of-terms t c = c.seal.auto.terms ∙ c.create_row.auto.terms ∙ c.create_key.auto.terms

pub create_encryption-returns : goal.create_encryption-returns
create_encryption-returns t c =
    let s = c.requires in
    part_sealed _ _ _ _ _ _ s.stands_at _ _ _ s.word_value _ c.variable-e.ensures _ (slot _ _ 0 c.slots-children.ensures) _ _ _ c.create_key.ensures
    _ c.in_ok-next.was _ _ _ _ c.create_row.ensures _ c.in_ok-last.was _ c.encrypt-sealed.ensures c.seal.ensures

pub create_encryption-returns-in_err-last : goal.create_encryption-returns-in_err-last
create_encryption-returns-in_err-last t c =
    let s = c.requires in
    part_ended _ _ _ _ _ _ s.stands_at _ _ _ s.word_value _ c.variable-e.ensures _ (slot _ _ 0 c.slots-children.ensures) _ _ _ c.create_key.ensures
    _ c.in_ok-next.was _ _ _ _ c.create_row.ensures c.in_err-last.was c.from_residual-in_err-last.ensures.1

pub create_encryption-returns-in_err-next : goal.create_encryption-returns-in_err-next
create_encryption-returns-in_err-next t c =
    let s = c.requires in
    key_ended _ _ _ _ _ _ s.stands_at _ _ _ s.word_value _ c.variable-e.ensures _ (slot _ _ 0 c.slots-children.ensures) _ _ _ c.create_key.ensures
    c.in_err-next.was c.from_residual.ensures.1

pub create_let-create_row-requires : goal.create_let-create_row-requires
create_let-create_row-requires t c =
    let s = c.requires in
    let slots = c.slots-children.ensures in
    let low = (let_children s.stands_at _ (slot _ _ 0 slots) _ (slot _ _ 1 slots) s.word_value).0 in
    (omega (arith, c.decreases, low), (stands_below s.stands_at.stands low, s.within))

pub create_let-returns-then-known : goal.create_let-returns-then-known
create_let-returns-then-known t c =
    let s = c.requires in
    let slots = c.slots-children.ensures in
    let first = c.create_row.ensures in
    let_set _ _ _ _ _ _ s.stands_at _ _ _ s.word_value _ c.raw-r.ensures _ (slot _ _ 0 slots) _ (slot _ _ 1 slots) _ _ _ _ first
    _ c.in_ok-next.was _ c.message_at-known.ensures c.if-known.true

pub create_let-set_message-requires : goal.create_let-set_message-requires
create_let-set_message-requires t c =
    let long : length c.create_row.new.cells.named ≡ named_cells = search rules in
    omega (arith, long, raw_low _ _ c.raw-r.ensures)

pub create_let-create_row-requires-2 : goal.create_let-create_row-requires-2
create_let-create_row-requires-2 t c =
    let s = c.requires in
    let slots = c.slots-children.ensures in
    let low = (let_children s.stands_at _ (slot _ _ 0 slots) _ (slot _ _ 1 slots) s.word_value).1 in
    (omega (arith, c.decreases, low), (stands_below s.stands_at.stands low, next_within c.create_row.ensures c.in_ok-next.was s.within))

pub create_let-returns : goal.create_let-returns
create_let-returns t c =
    let s = c.requires in
    let slots = c.slots-children.ensures in
    let first = c.create_row.ensures in
    let_second _ _ _ _ _ _ s.stands_at _ _ _ s.word_value _ c.raw-r.ensures _ (slot _ _ 0 slots) _ (slot _
    _ 1 slots) _ _ _ _ first
    _ c.in_ok-next.was _
    c.message_at-known.ensures c.if-known.false s.within (search rules) _ c.set_message.ensures
    c.create_row-2.ensures

pub create_let-returns-in_err-next : goal.create_let-returns-in_err-next
create_let-returns-in_err-next t c =
    let s = c.requires in
    let slots = c.slots-children.ensures in
    let first = c.create_row.ensures in
    let_ended _ _ _ _ _ _ s.stands_at _ _ _ s.word_value _ c.raw-r.ensures _
    (slot _ _ 0 slots) _ (slot _ _ 1 slots) _ _ _ _ first
    c.in_err-next.was c.from_residual.ensures.1

pub create_row-create_encryption-requires : goal.create_row-create_encryption-requires
create_row-create_encryption-requires t c =
    let s = c.requires in
    (omega (arith, c.decreases), (record { here = refl; stands = s.stands }, (sym c.tag.ensures ∙ c.in-5.is, s.within)))

pub create_row-create_tuple-requires : goal.create_row-create_tuple-requires
create_row-create_tuple-requires t c =
    let s = c.requires in
    (omega (arith, c.decreases), (record { here = refl; stands = s.stands }, (sym c.tag.ensures ∙ c.in-8.is, s.within)))

pub create_row-create_let-requires : goal.create_row-create_let-requires
create_row-create_let-requires t c =
    let s = c.requires in
    (omega (arith, c.decreases), (record { here = refl; stands = s.stands }, (sym c.tag.ensures ∙ c.in-9.is, s.within)))

pub create_row-create_leaf-requires : goal.create_row-create_leaf-requires
create_row-create_leaf-requires t c =
    let s = c.requires in
    record {
      stands_at = record { here = refl; stands = s.stands };
      leaf = record { encryption = λ h. omega arith; tuple = λ h. omega arith; let_in = λ h. omega arith };
      within = s.within;
      objects_len = search rules;
    }

pub create_tuple-loop-k-init : goal.create_tuple-loop-k-init
create_tuple-loop-k-init t c = gathered_none _ _ _ _ _ _ (search rules) c.requires.within

pub create_tuple-slice_bounds-children-end : goal.create_tuple-slice_bounds-children-end
create_tuple-slice_bounds-children-end t c = omega (arith, tuple_few c.requires.stands_at c.requires.word_value _ c.count-count.ensures)

pub create_tuple-create_row-requires : goal.create_tuple-create_row-requires
create_tuple-create_row-requires t c =
    let s = c.requires in
    let inv = c.loop-k.invariant in
    let long = front_length s.stands_at s.word_value _ c.count-count.ensures _ c.slots-children.ensures in
    let own = front_slot s.stands_at s.word_value _ c.count-count.ensures _ c.slots-children.ensures _ c.loop-k-test.true in
    let low = part_low s.stands_at s.word_value _ c.count-count.ensures _ _ own (omega (arith, long, c.loop-k-test.true)) in (
      omega (arith, c.decreases, low),
      (
        stands_below s.stands_at.stands low,
        inv.within,
      ),
    )

pub create_tuple-returns-in_err-here : goal.create_tuple-returns-in_err-here
create_tuple-returns-in_err-here t c =
    let s = c.requires in
    let long = front_length s.stands_at s.word_value _ c.count-count.ensures _ c.slots-children.ensures in
    let own = front_slot s.stands_at s.word_value _ c.count-count.ensures _ c.slots-children.ensures _ c.loop-k-test.true in
    tuple_ended _ _ _ _ _ _ s.stands_at s.word_value _ c.loop-k.invariant (omega (arith, c.loop-k-test.true, c.count-count.ensures, long)) _ own _ c.create_row.ensures
    _ c.variable-t.ensures c.in_err-here.was c.from_residual.ensures.1

pub create_tuple-offset_bounds-parts-k : goal.create_tuple-offset_bounds-parts-k
create_tuple-offset_bounds-parts-k t c =
    let s = c.requires in
    omega (arith, c.loop-k-test.true, front_length s.stands_at s.word_value _ c.count-count.ensures _ c.slots-children.ensures, tuple_few s.stands_at s.word_value _ c.count-count.ensures)

pub create_tuple-bounds-parts-k : goal.create_tuple-bounds-parts-k
create_tuple-bounds-parts-k t c =
    let s = c.requires in
    let long = front_length s.stands_at s.word_value _ c.count-count.ensures _ c.slots-children.ensures in
    omega (arith, c.loop-k-test.true, long, tuple_few s.stands_at s.word_value _ c.count-count.ensures, c.loop-k.invariant.four)

pub create_tuple-loop-k-preserved : goal.create_tuple-loop-k-preserved
create_tuple-loop-k-preserved t c =
    let s = c.requires in
    let long = front_length s.stands_at s.word_value _ c.count-count.ensures _ c.slots-children.ensures in
    let own = front_slot s.stands_at s.word_value _ c.count-count.ensures _ c.slots-children.ensures _ c.loop-k-test.true in
    gathered_more _ _ _ _ _ _ s.stands_at s.word_value _ c.loop-k.invariant (omega (arith, c.loop-k-test.true, c.count-count.ensures, long)) _ own _ c.create_row.ensures
    _ c.in_ok-here.was

pub create_tuple-tuple-requires : goal.create_tuple-tuple-requires
create_tuple-tuple-requires t c =
    let few = tuple_few c.requires.stands_at c.requires.word_value _ c.count-count.ensures in
    omega (arith, few, length-take c.count-count.result c.loop-k.parts)

pub create_tuple-make_value-requires : goal.create_tuple-make_value-requires
create_tuple-make_value-requires t c =
    let long : length c.args.cells.now.objects ≡ variables = search rules in record {
      within = c.loop-k.invariant.within;
      v_in_bounds = omega (arith, c.loop-k.invariant.kept.lengths.objects_length, long, variable_low _ _ c.variable-t.ensures);
    }

pub create_tuple-shape_of-terms : goal.create_tuple-shape_of-terms
create_tuple-shape_of-terms t c = (next_kept (c.make_value.ensures (λ v. 0) _ c.tuple.ensures
    (slices [] [] [] []))).lengths.rows_length ∙ c.loop-k.invariant.kept.lengths.rows_length

pub create_tuple-returns : goal.create_tuple-returns
create_tuple-returns t c =
    let s = c.requires in
    let long = front_length s.stands_at s.word_value _ c.count-count.ensures _ c.slots-children.ensures in
    tuple_made _ _ _ _ _ _ s.stands_at s.word_value _ c.loop-k.invariant _ c.count-count.ensures (omega (arith, c.loop-k-test.false, long)) _ c.variable-t.ensures _ c.tuple.ensures
    c.make_value.ensures
