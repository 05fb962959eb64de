use mathlib.Core.Path.{◌∙◌}
use mathlib.Core.Bool.{not}
use lib.Dec.{eqb}
use borrow.Author.Rules.{rules}
use borrow.Author.Tests.{tests}
use Rattle.std.proofs.lemmas.Iterator.{YieldsList-from_slice}
use Rattle.std.proofs.lemmas.Iterator.Search.{all_from_yields_List}
use Rattle.word.proofs.ScanLaws.{all_each}
use Rattle.stores.specs.Certificates.{agent_of}
use Rattle.certificates.proofs.stands_nowhere.Goals as goal

pub returns : goal.returns
returns c =
    all_from_yields_List (λ other. not (eqb (agent_of other) c.args.agent.0)) _ _ _ c.all.ensures.ran (YieldsList-from_slice c.args.certificates.now cc) (λ x b q k. search (rules, tests))
    ∙ all_each _ _
