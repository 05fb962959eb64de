use Prim.Native.Nat.{◌%◌}
use mathlib.Core.Path.{◌∙◌}
use lib.Dec.{eqb}
use borrow.Author.Tests.{tests}
use borrow.Author.Rules.{rules}
use Rattle.std.proofs.lemmas.Iterator.{YieldsList-from_slice}
use Rattle.std.proofs.lemmas.Iterator.Search.{all_from_yields_List}
use Rattle.bundles.proofs.ClearLaws.{all_clear}
use Rattle.bundles.proofs.certificates_clear.Goals as goal

pub returns : goal.returns
returns c =
    let words = c.args.certificates.now in
    all_from_yields_List (λ word. eqb (word % 1099511627776) 0) _ _ _ c.all.ensures.ran (YieldsList-from_slice words cc) (λ x q k. search (rules, tests))
    ∙ all_clear words
