use lib.Dec.{lit≤}
use Rattle.emission.proofs.BudgetLaws.{room_le, room_then, leaf_room}
use Rattle.patterns.proofs.StandingLaws.{signature_key, variable_low, key_low}
use Rattle.matching.proofs.LeafLaws.{signed_plain, signed_opposite, signed_certified}
use Rattle.matching.proofs.match_signature.Goals as goal

pub decode-requires : goal.decode-requires
decode-requires c = record { room_for = room_le (lit≤ tt) (lit≤ tt) (leaf_room _ _ _ _ c.requires.row_at); v_lt_variables = variable_low _ _ c.variable.ensures }

pub verify-requires : goal.verify-requires
verify-requires c = room_then (lit≤ tt) (lit≤ tt)
    (leaf_room _ _ _ _ c.requires.row_at)
    c.decode.ensures

pub verify_opposite-requires : goal.verify_opposite-requires
verify_opposite-requires c = record {
  public_lt_variables = key_low _ (signature_key c.requires.row_at.standing c.requires.word_value) _ c.key-key.ensures;
  room_for = room_then (lit≤ tt)
      (lit≤ tt) (leaf_room _ _ _ _ c.requires.row_at) c.decode.ensures;
}

pub verify_certified-requires : goal.verify_certified-requires
verify_certified-requires c = record {
  key_lt_variables = key_low _ (signature_key c.requires.row_at.standing c.requires.word_value) _ c.key-key.ensures;
  room_for = room_then (lit≤ tt)
      (lit≤ tt) (leaf_room _ _ _ _ c.requires.row_at) c.decode.ensures;
}

pub returns-in-0 : goal.returns-in-0
returns-in-0 c = search (signed_plain)

pub returns-in-1 : goal.returns-in-1
returns-in-1 c = search (signed_opposite)

pub returns-in_default : goal.returns-in_default
returns-in_default c = search (signed_certified)
