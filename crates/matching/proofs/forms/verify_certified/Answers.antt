use Rattle.matching.proofs.FormLaws.{verify_certified}
use Rattle.matching.proofs.forms.verify_certified.Goals as goal

pub returns : goal.returns
returns c =
    let taken = c.take.ensures in
    verify_certified _ _ _ c.scratch-s.ensures taken.0 taken.1 c.store.ensures _ _ _ c.encode.ensures c.key_of.ensures
    c.decode.ensures c.load.ensures c.verify.ensures
