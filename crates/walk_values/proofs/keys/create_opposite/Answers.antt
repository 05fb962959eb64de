-- `walk_values::keys::create_opposite` meets its contract, a way out at a time.
use Rattle.walk_values.proofs.KeyLaws.{opposite_asks, opposite_ended, opposite_made}
use Rattle.walk_values.proofs.keys.create_opposite.Goals as goal

pub opposite_key-requires : goal.opposite_key-requires
opposite_key-requires c =
    let asks = opposite_asks _ _ _ _ _ _ _ _ _ _ c.get_variable.ensures _ c.in_ok-next.was (c.requires.within, c.requires.public_in_bounds) in
    record { within = asks.0; public_in_bounds = asks.1 }

pub returns-in_err-next : goal.returns-in_err-next
returns-in_err-next c = opposite_ended _ _ _ _ _ _ _ _ _ _ c.get_variable.ensures c.in_err-next.was c.from_residual.ensures.1

pub returns : goal.returns
returns c = opposite_made _ _ _ _ _ _ _ _ _ _ c.get_variable.ensures _ c.in_ok-next.was c.opposite_key.ensures
