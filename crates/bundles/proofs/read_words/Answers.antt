use mathlib.Core.Path.{◌∙◌}
use native.Mathlib.Omega.{arith}
use Rattle.bundles.proofs.WordLaws.{words_read}
use Rattle.bundles.proofs.read_words.Goals as goal

pub returns : goal.returns
returns c =
    let args = c.args in
    c.unpack_words.ensures ∙ words_read args.bytes.now args.from args.count (omega arith) args.rows.now
