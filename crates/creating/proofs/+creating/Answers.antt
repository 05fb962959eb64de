use borrow.Author.Rules.{rules}
use mathlib.Core.Path.{ap}
use lib.ListN.{take}
use native.Mathlib.Omega.{arith}
use Rattle.patterns.proofs.StandingLaws.{slot, encryption_key, encryption_child, let_children, variable_low}
use Rattle.emission.proofs.PartLaws.{parts_end}
use Rattle.creating.proofs.LeafLaws.{key_room}
use Rattle.creating.proofs.ChildLaws.{encryption_inside, encrypt_room, seal_room, encryption_done, let_first, let_store, let_second, let_done}
use Rattle.creating.proofs.PartLaws.{in_turn_lem, part_asks, part_stores, part_done, tuple_asks, tuple_create, tuple_encode, tuple_done}
use Rattle.creating.proofs.+creating.Goals as goal

pub create_encryption-create_key-requires : goal.create_encryption-create_key-requires
create_encryption-create_key-requires t c =
    let asked = c.requires in record { word_bound = encryption_key asked.row_at.standing asked.word_value; room_for = key_room _ _ _ asked.row_at }

pub create_encryption-create_row-requires : goal.create_encryption-create_row-requires
create_encryption-create_row-requires t c =
    let asked = c.requires in
    let first = slot _ _ 0 c.slots-children.ensures in (
      omega (arith, c.decreases, encryption_child asked.row_at.standing _ first asked.word_value),
      encryption_inside _ _ _ asked.row_at asked.word_value _ first c.create_key.ensures,
    )

pub create_encryption-encrypt-requires : goal.create_encryption-encrypt-requires
create_encryption-encrypt-requires t c =
    let asked = c.requires in
    let first = slot _ _ 0 c.slots-children.ensures in
    encrypt_room _ _ _ asked.row_at asked.word_value _ first c.create_key.ensures c.create_row.ensures

pub create_encryption-decode-requires : goal.create_encryption-decode-requires
create_encryption-decode-requires t c =
    let asked = c.requires in
    let first = slot _ _ 0 c.slots-children.ensures in record {
      room_for = seal_room _ _ _ asked.row_at asked.word_value _ first c.create_key.ensures
          c.create_row.ensures c.encrypt.ensures;
      v_lt_variables = variable_low _ _
          c.variable-e.ensures;
    }

pub create_encryption-returns : goal.create_encryption-returns
create_encryption-returns t c =
    let asked = c.requires in
    let first = slot _ _ 0 c.slots-children.ensures in
    encryption_done _ _ _ asked.row_at asked.word_value _ first _ _ _
    c.variable-e.ensures
    c.key-key.ensures
    c.create_key.ensures
    c.create_row.ensures
    c.encrypt.ensures c.decode.ensures

pub create_let-create_row-requires : goal.create_let-create_row-requires
create_let-create_row-requires t c =
    let asked = c.requires in
    let first = slot _ _ 0 c.slots-children.ensures in
    let second = slot _ _ 1 c.slots-children.ensures in
    (omega (arith, c.decreases, (let_children asked.row_at.standing _ first _ second asked.word_value).0), let_first _ _ _ asked.row_at asked.word_value _ first _ second)

pub create_let-store-requires : goal.create_let-store-requires
create_let-store-requires t c =
    let asked = c.requires in
    let first = slot _ _ 0 c.slots-children.ensures in
    let second = slot _ _ 1 c.slots-children.ensures in
    let_store _ _ _ asked.row_at asked.word_value _ first _ second c.create_row.ensures

pub create_let-create_row-requires-2 : goal.create_let-create_row-requires-2
create_let-create_row-requires-2 t c =
    let asked = c.requires in
    let first = slot _ _ 0 c.slots-children.ensures in
    let second = slot _ _ 1 c.slots-children.ensures in (
      omega (
        arith,
        c.decreases,
        (let_children asked.row_at.standing _ first _
            second asked.word_value).1,
      ),
      let_second _ _ _ asked.row_at asked.word_value _ first _ second
          c.create_row.ensures c.store.ensures,
    )

pub create_let-returns : goal.create_let-returns
create_let-returns t c =
    let asked = c.requires in
    let first = slot _ _ 0 c.slots-children.ensures in
    let second = slot _ _ 1 c.slots-children.ensures in
    let_done _ _ _ asked.row_at asked.word_value _ first _ second _ _
    c.raw-r.ensures
    c.create_row.ensures c.store.ensures
    c.create_row-2.ensures

pub create_tuple-create_parts-requires : goal.create_tuple-create_parts-requires
create_tuple-create_parts-requires t c =
    let asked = c.requires in
    let taken = c.take-first.ensures in (
      omega (arith, c.decreases),
      (
        search rules,
        tuple_asks _ _ _ asked.row_at asked.word_value _
            c.count-n.ensures _ c.slots.ensures _ _ (ap (take c.count-n.result) c.parts_of-parts.ensures) taken.0
            taken.1,
      ),
    )

pub create_tuple-create_tuple-requires : goal.create_tuple-create_tuple-requires
create_tuple-create_tuple-requires t c =
    let asked = c.requires in
    let taken = c.take-first.ensures in record {
      room_for = tuple_create _ _ _ asked.row_at asked.word_value _ c.count-n.ensures
          _ c.slots.ensures _ _ (ap (take c.count-n.result) c.parts_of-parts.ensures) taken.0
          taken.1 _ c.create_parts.ensures;
      t_lt_variables = variable_low _ _
          c.variable-t.ensures;
    }

pub create_tuple-encode-requires : goal.create_tuple-encode-requires
create_tuple-encode-requires t c =
    let asked = c.requires in
    let taken = c.take-first.ensures in
    tuple_encode _ _ _ asked.row_at asked.word_value _
    c.count-n.ensures _
    c.slots.ensures _ _
    (ap (take c.count-n.result) c.parts_of-parts.ensures) taken.0 taken.1 _
    c.create_parts.ensures c.create_tuple.ensures

pub create_tuple-returns : goal.create_tuple-returns
create_tuple-returns t c =
    let asked = c.requires in
    let taken = c.take-first.ensures in
    tuple_done _ _ _ asked.row_at asked.word_value _
    c.count-n.ensures _
    c.slots.ensures _ _
    (ap (take c.count-n.result) c.parts_of-parts.ensures) taken.0 taken.1 _ _ _
    c.variable-t.ensures
    c.scratch-cell.ensures
    c.create_parts.ensures c.create_tuple.ensures
    c.encode.ensures

pub create_parts-create_row-requires : goal.create_parts-create_row-requires
create_parts-create_row-requires t c =
    let inside = c.loop-part-test.true in
    (omega (arith, c.decreases, c.requires.parts_at.below _ inside), part_asks _ _ _ _ c.requires.parts_at _ c.loop-part.invariant inside)

pub create_parts-store-requires : goal.create_parts-store-requires
create_parts-store-requires t c = part_stores _ _ _ _ c.requires.parts_at _ c.loop-part.invariant c.loop-part-test.true c.create_row.ensures

pub create_parts-loop-part-preserved : goal.create_parts-loop-part-preserved
create_parts-loop-part-preserved t c =
    part_done _ _ _ _ c.requires.parts_at _ c.loop-part.invariant c.loop-part-test.true c.create_row.ensures c.scratch.ensures c.store.ensures

pub create_parts-returns : goal.create_parts-returns
create_parts-returns t c = parts_end (in_turn_lem _) _ _ _ c.requires.parts_at _ c.loop-part.invariant c.loop-part-test.false
