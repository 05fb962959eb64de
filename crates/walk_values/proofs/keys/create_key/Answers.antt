-- `walk_values::keys::create_key` meets its contract, form by form.
use Rattle.walk_values.proofs.KeyLaws.{key_plain, key_opposite, key_certified}
use Rattle.patterns.proofs.StandingLaws.{key_low, second_low}
use native.Mathlib.Omega.{arith}
use Rattle.walk_values.proofs.keys.create_key.Goals as goal

pub create_opposite-requires : goal.create_opposite-requires
create_opposite-requires c =
    let low = key_low _ c.requires.word_bound _ c.key-key.ensures in
    let other = second_low _ _ c.y.ensures in
    record { within = c.requires.within; public_in_bounds = (omega (arith, c.requires.objects_len, low), omega (arith, c.requires.objects_len, other)) }

pub returns-in-0 : goal.returns-in-0
returns-in-0 c = search (key_plain)

pub returns-in-1 : goal.returns-in-1
returns-in-1 c = search (key_opposite)

pub returns-in_default : goal.returns-in_default
returns-in_default c =
    key_certified _ _ _ _ _ _ _ _ c.key_form.ensures _ c.key-key.ensures _ c.y-agent.ensures c.requires.word_bound.0 (λ h. omega arith) (λ h. omega arith) c.certified_key.ensures
