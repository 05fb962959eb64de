use Rattle.creating.proofs.KeyLaws.{key_plain, key_certified}
use Rattle.patterns.proofs.StandingLaws.{key_low, second_low}
use Rattle.creating.proofs.keys.create_key.Goals as goal

pub opposite_key-requires : goal.opposite_key-requires
opposite_key-requires c = record {
  public_lt_variables = (
    key_low _ c.requires.word_bound _
        c.key-key.ensures,
    second_low _ _ c.y.ensures,
  );
  room_for = c.requires.room_for;
}

pub returns-in-0 : goal.returns-in-0
returns-in-0 c = search (key_plain)

pub returns-in_default : goal.returns-in_default
returns-in_default c =
    let n = c.in_default.in_default-own.rest in
    key_certified _ _ _ _ _ c.key-key.ensures c.key_form-by.ensures _ c.y-in_default.ensures c.requires.word_bound n.0.1 n.1
    (c.certified_key.ensures _)
