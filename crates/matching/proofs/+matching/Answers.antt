use borrow.Author.Rules.{rules}
use mathlib.Core.Path.{refl, ap}
use lib.ListN.{take}
use native.Mathlib.Omega.{arith}
use lib.Dec.{lit≤}
use Rattle.emission.proofs.BudgetLaws.{room_le, room_then, leaf_room}
use Rattle.patterns.proofs.StandingLaws.{slot, encryption_child, let_children, variable_low}
use Rattle.emission.proofs.PartLaws.{parts_end, tuple_parts}
use Rattle.matching.proofs.WalkLaws.{encryption_asks, encryption_done, encryption_wrong, let_second, let_loads, let_first, let_done, in_turn_lem, part_loads, part_asks, part_done, tuple_analyzes, tuple_done}
use Rattle.matching.proofs.+matching.Goals as goal

pub match_encryption-decode-requires : goal.match_encryption-decode-requires
match_encryption-decode-requires t c = record { room_for = room_le (lit≤ tt) (lit≤ tt) (leaf_room _ _ _ _ c.requires.row_at); v_lt_variables = variable_low _ _ c.variable.ensures }

pub match_encryption-decrypt-requires : goal.match_encryption-decrypt-requires
match_encryption-decrypt-requires t c = room_then (lit≤ tt) (lit≤ tt) (leaf_room _ _ _ _
    c.requires.row_at) c.decode.ensures

pub match_encryption-match_row-requires : goal.match_encryption-match_row-requires
match_encryption-match_row-requires t c =
    let child = slot _ _ 0 c.slots-children.ensures in (
      omega (arith, c.decreases, encryption_child c.requires.row_at.standing _ child c.requires.word_value),
      encryption_asks _ _ _ c.requires.row_at c.requires.word_value _ child
          c.decode.ensures c.decrypt.ensures,
    )

pub match_encryption-returns-then-key_form-eq-PLAIN_KEY : goal.match_encryption-returns-then-key_form-eq-PLAIN_KEY
match_encryption-returns-then-key_form-eq-PLAIN_KEY t c =
    let child = slot _ _ 0 c.slots-children.ensures in
    encryption_done _ _ _ c.requires.row_at c.requires.word_value _ child _
    c.key_form.ensures _ _
    c.variable.ensures
    c.key.ensures
    c.if-key_form-eq-PLAIN_KEY.true
    c.decode.ensures c.decrypt.ensures c.match_row.ensures

pub match_encryption-returns-else-key_form-eq-PLAIN_KEY : goal.match_encryption-returns-else-key_form-eq-PLAIN_KEY
match_encryption-returns-else-key_form-eq-PLAIN_KEY t c =
    encryption_wrong _ _ _ c.requires.row_at c.requires.word_value _ refl _ c.key_form.ensures c.if-key_form-eq-PLAIN_KEY.false c.wrong_kind.ensures

pub match_let-match_row-requires : goal.match_let-match_row-requires
match_let-match_row-requires t c =
    let first = slot _ _ 0 c.slots-children.ensures in
    let second = slot _ _ 1 c.slots-children.ensures in (
      omega (arith, c.decreases, (let_children c.requires.row_at.standing _ first _ second c.requires.word_value).1),
      let_second _ _ _ c.requires.row_at c.requires.word_value _ first _ second
          c.free_raw.ensures,
    )

pub match_let-load-requires : goal.match_let-load-requires
match_let-load-requires t c =
    let first = slot _ _ 0 c.slots-children.ensures in
    let second = slot _ _ 1 c.slots-children.ensures in
    let_loads _ _ _ c.requires.row_at c.requires.word_value _ first _ second c.free_raw.ensures c.match_row.ensures

pub match_let-match_row-requires-2 : goal.match_let-match_row-requires-2
match_let-match_row-requires-2 t c =
    let first = slot _ _ 0 c.slots-children.ensures in
    let second = slot _ _ 1 c.slots-children.ensures in (
      omega (arith, c.decreases, (let_children c.requires.row_at.standing _ first _ second c.requires.word_value).0),
      let_first _ _ _ c.requires.row_at c.requires.word_value _ first
          _ second c.free_raw.ensures
          c.match_row.ensures c.load.ensures,
    )

pub match_let-returns : goal.match_let-returns
match_let-returns t c =
    let first = slot _ _ 0 c.slots-children.ensures in
    let second = slot _ _ 1 c.slots-children.ensures in
    let_done _ _ _ c.requires.row_at c.requires.word_value _ first _ second
    c.free_raw.ensures
    c.match_row.ensures c.load.ensures
    c.raw-r.ensures c.match_row-2.ensures

pub match_tuple-decode-requires : goal.match_tuple-decode-requires
match_tuple-decode-requires t c = record { room_for = room_le (lit≤ tt) (lit≤ tt) (leaf_room _ _ _ _ c.requires.row_at); v_lt_variables = variable_low _ _ c.variable-t.ensures }

pub match_tuple-analyze_tuple-requires : goal.match_tuple-analyze_tuple-requires
match_tuple-analyze_tuple-requires t c =
    tuple_analyzes _ _ _ c.requires.row_at c.requires.word_value _ c.count-n.ensures
    c.decode.ensures c.take-first.ensures.1

pub match_tuple-match_parts-requires : goal.match_tuple-match_parts-requires
match_tuple-match_parts-requires t c = (
  omega (arith, c.decreases),
  (
    search rules,
    tuple_parts _ _ _ c.requires.row_at c.requires.word_value _
        c.count-n.ensures _
        c.slots.ensures _ _ (ap (take c.count-n.result) c.parts_of-parts.ensures)
        c.decode.ensures
        c.take-first.ensures.0
        c.take-first.ensures.1
        c.analyze_tuple.ensures,
  ),
)

pub match_tuple-returns : goal.match_tuple-returns
match_tuple-returns t c =
    tuple_done _ _ _ c.requires.row_at c.requires.word_value _
    c.count-n.ensures _
    c.slots.ensures _ _ (ap (take c.count-n.result) c.parts_of-parts.ensures) _ _
    c.variable-t.ensures
    c.scratch.ensures
    c.decode.ensures
    c.take-first.ensures.0
    c.take-first.ensures.1
    c.analyze_tuple.ensures c.match_parts.ensures

pub match_parts-load-requires : goal.match_parts-load-requires
match_parts-load-requires t c = part_loads _ _ _ c.requires.parts_at _ c.loop-part.invariant c.loop-part-test.true

pub match_parts-match_row-requires : goal.match_parts-match_row-requires
match_parts-match_row-requires t c =
    let inside = c.loop-part-test.true in
    (omega (arith, c.decreases, c.requires.parts_at.below _ inside), part_asks _ _ _ c.requires.parts_at _ c.loop-part.invariant inside c.scratch.ensures c.load.ensures)

pub match_parts-loop-part-preserved : goal.match_parts-loop-part-preserved
match_parts-loop-part-preserved t c =
    part_done _ _ _ c.requires.parts_at _ c.loop-part.invariant c.loop-part-test.true c.scratch.ensures c.load.ensures c.match_row.ensures

pub match_parts-returns : goal.match_parts-returns
match_parts-returns t c = parts_end in_turn_lem _ _ _ c.requires.parts_at _ c.loop-part.invariant c.loop-part-test.false
