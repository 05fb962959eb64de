-- `leaf_matching::keys::signing_key` meets its contract, a way out at a time.
use Rattle.leaf_matching.proofs.KeyLaws.{signing_held, signing_opposite, signing_certified}
use native.Mathlib.Omega.{arith}
use Rattle.leaf_matching.proofs.keys.signing_key.Goals as goal

pub returns-in-0 : goal.returns-in-0
returns-in-0 c = signing_held _ _ _ _ _ _ c.requires.word_bound _ c.in_ok-walk.was _ _ c.key-key.ensures c.y-second.ensures _ c.key_form.ensures c.in-0.is c.held_key.ensures

pub returns-in-1 : goal.returns-in-1
returns-in-1 c =
    signing_opposite _ _ _ _ _ _ c.requires.word_bound _ c.in_ok-walk.was _ _ c.key-key.ensures c.y-second.ensures _ c.key_form.ensures c.in-1.is c.opposite_of.ensures

pub returns-in_default : goal.returns-in_default
returns-in_default c =
    signing_certified _ _ _ _ _ _ c.requires.word_bound _ c.in_ok-walk.was _ _ c.key-key.ensures c.y-second.ensures _ c.key_form.ensures (λ h. omega arith) (λ h. omega arith) c.certified_key.ensures
