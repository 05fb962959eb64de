use mathlib.Core.Path.{◌∙◌}
use Rattle.numbers.specs.Kinds.{kind_in}
use Rattle.turns.proofs.WordLaws.{good_first, good_last, good_between}
use Rattle.turns.proofs.words.good_round_word.Goals as goal

pub returns-then-place-eq0 : goal.returns-then-place-eq0
returns-then-place-eq0 c = let a = c.args in good_first (kind_in a.kinds.now) a.words a.place a.word c.if-place-eq0.true

pub returns-then-place-words : goal.returns-then-place-words
returns-then-place-words c = let a = c.args in good_last (kind_in a.kinds.now) a.words a.place a.word c.if-place-eq0.false c.if-place-words.true

pub returns : goal.returns
returns c = let a = c.args in c.good_word.ensures ∙ good_between (kind_in a.kinds.now) a.words a.place
    a.word c.if-place-eq0.false c.if-place-words.false
