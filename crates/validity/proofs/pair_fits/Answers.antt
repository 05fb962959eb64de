use Rattle.stores.specs.Certificates.{pair_fits}
use Rattle.validity.proofs.pair_fits.Goals as goal

pub returns : goal.returns
unfolding pair_fits
returns c =
    rw (
      c.spare.ensures,
      c.tag_at.ensures,
      c.tag_at-2.ensures,
      c.agent-agent.ensures,
      c.key-key.ensures,
    )
