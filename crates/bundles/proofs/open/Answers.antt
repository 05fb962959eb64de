use Rattle.bundles.proofs.OpeningLaws.{opening-ways}
use Rattle.bundles.proofs.open.Goals as goal

pub returns-then-bytes-lt8 : goal.returns-then-bytes-lt8
returns-then-bytes-lt8 c = search opening-ways

pub returns-then-not-header_fits : goal.returns-then-not-header_fits
returns-then-not-header_fits c = search opening-ways

pub returns-then-bytes-words : goal.returns-then-bytes-words
returns-then-bytes-words c = search opening-ways

pub returns : goal.returns
returns c = search opening-ways
