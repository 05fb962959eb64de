use Rattle.patterns.proofs.StandingLaws.{signature_key, variable_low}
use Rattle.creating.proofs.LeafLaws.{key_room, body_room, sign_room, decode_room, signed}
use Rattle.creating.proofs.create_signature.Goals as goal

pub create_key-requires : goal.create_key-requires
create_key-requires c = record { word_bound = signature_key c.requires.row_at.standing c.requires.word_value; room_for = key_room _ _ _ c.requires.row_at }

pub load-requires : goal.load-requires
load-requires c = body_room _ _ _ c.requires.row_at c.create_key.ensures

pub sign-requires : goal.sign-requires
sign-requires c = sign_room _ _ _ c.requires.row_at
    c.create_key.ensures c.load.ensures

pub decode-requires : goal.decode-requires
decode-requires c = record {
  room_for = decode_room _ _ _ c.requires.row_at
      c.create_key.ensures
      c.load.ensures c.sign.ensures;
  v_lt_variables = variable_low _ _
      c.variable-s.ensures;
}

pub returns : goal.returns
returns c = search (signed)
