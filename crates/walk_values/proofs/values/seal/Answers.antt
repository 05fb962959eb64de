-- `walk_values::values::seal` meets its contract, a way out at a time.
use Rattle.walk_values.proofs.ValueLaws.{founds_within, seal_ended, seal_decoded}
use Rattle.walk_values.proofs.values.seal.Goals as goal

pub decode-requires : goal.decode-requires
decode-requires c = record {
  within = founds_within _ _ _ _ _ c.make.ensures c.in_ok-next.was c.requires.within;
  v_in_bounds = c.requires.v_in_bounds;
}

pub returns-in_err-next : goal.returns-in_err-next
returns-in_err-next c = seal_ended _ _ _ _ _ _ _ _ _ c.make.ensures c.in_err-next.was c.from_residual.ensures.1

pub returns : goal.returns
returns c = seal_decoded _ _ _ _ _ _ _ _ _ c.make.ensures _ c.in_ok-next.was c.decode.ensures
