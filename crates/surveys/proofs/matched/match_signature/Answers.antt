use Rattle.patterns.proofs.StandingLaws.{variable_low}
use Rattle.surveys.proofs.LeafLaws.{signed_plain, signed_derived}
use Rattle.surveys.proofs.matched.match_signature.Goals as goal
use Rattle.surveys.proofs.matched.match_signature.Goals.{then-key_form-eq-PLAIN_KEY, else-key_form-eq-PLAIN_KEY}

pub write_object-requires : goal.write_object-requires
write_object-requires c = search (variable_low)

pub returns : goal.returns
returns c =
    elim c.if-key_form-eq-PLAIN_KEY.branch [
      | then-key_form-eq-PLAIN_KEY w ↦
          signed_plain _ _ _ c.requires.stands_at c.requires.word_value _ _ c.variable.ensures c.raw-r.ensures _ _ c.key-key.ensures c.key_form.ensures c.write_object.ensures
          w.if-key_form-eq-PLAIN_KEY.true w.read_object.ensures (rw w.emission-is at c.read_raw.ensures)
      | else-key_form-eq-PLAIN_KEY w ↦
          signed_derived _ _ _ c.requires.stands_at c.requires.word_value _ _ c.variable.ensures c.raw-r.ensures _ _ c.key-key.ensures c.key_form.ensures c.write_object.ensures _ w.y.ensures
          w.if-key_form-eq-PLAIN_KEY.false w.derive_key.ensures (rw w.emission-is at c.read_raw.ensures)
    ]
