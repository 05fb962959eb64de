use native.Mathlib.Omega.{arith}
use Rattle.bundles.specs.Opening.{bundle_in}
use Rattle.bundles.proofs.BundleLaws.{fields}
use Rattle.bundles.proofs.FillLaws.{rest_filled}
use Rattle.bundles.proofs.term_rows.Goals as goal

pub read_words-requires : goal.read_words-requires
read_words-requires c = omega (arith, fields _ _ c.requires.0)

pub returns : goal.returns
returns c =
    let terms = (fields _ _ c.requires.0).terms in
    rest_filled 0 c.args.header.term_rows (bundle_in c.args.bytes.now).terms c.args.rows.now (omega arith)
    (rw terms c.read_words.ensures) c.read_words.auto.rows (c.fill.ensures.after (λ y e. e))
