use Rattle.bundles.proofs.BundleLaws.{fields}
use Rattle.outcomes.proofs.PartLaws.{pattern_front}
use Rattle.outcomes.proofs.parts.pattern.Goals as goal

pub pattern_rows-requires : goal.pattern_rows-requires
pattern_rows-requires c = (c.requires, (fields _ _ c.requires).limits.0)

pub returns : goal.returns
returns c = pattern_front _ c.requires _ c.pattern_rows.ensures
