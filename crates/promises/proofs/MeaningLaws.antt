-- What rows mean, each claim by one citation.
use Rattle.patterns.specs.Tree.{pattern_of}
use Rattle.patterns.proofs.RuleLaws.{bad_pattern_none}
use Rattle.patterns.proofs.TreeLaws.{pattern_size, raws_below}
use Rattle.patterns.specs.Laid.{laid}
use Rattle.patterns.proofs.EveryLaws.{every_pattern_bare}
use Rattle.patterns.proofs.PassLaws.{every_pattern_passes}
use Rattle.theory.proofs.Meaning.{meaning_of, meaning_once}
use Rattle.promises.specs.Meanings.{Meanings}
use Rattle.calls.proofs.LookLaws.{looks_emitted}

pub meanings : Meanings
meanings = record {
  means = λ valid row used. meaning_of valid row used;
  once = λ valid row other used also e. meaning_once valid row other used also e;
  whole = λ rows some good. pattern_size rows ((bad_pattern_none rows).1 good) some;
  every = λ p fits. ((bad_pattern_none (laid 0 p)).0 (every_pattern_passes p fits), every_pattern_bare p fits);
  looks = λ create kind rows e. looks_emitted create kind (pattern_of rows) e (raws_below rows);
}
