use native.Mathlib.Omega.{arith}
use Rattle.code_reading.proofs.LinesLaws.{lines_yet, same_long, few_lines, lines_stop, lines_further, lines_more, lines_done}
use Rattle.code_reading.proofs.lines.read_words.Goals as goal

pub loop-at-init : goal.loop-at-init
loop-at-init c = lines_yet _ _

pub word_at-requires : goal.word_at-requires
word_at-requires c = few_lines c.loop-at.invariant c.loop-at-test.true c.well_formed.0.1

pub shape_of-words-in_default : goal.shape_of-words-in_default
shape_of-words-in_default c = same_long c.loop-at.invariant

pub returns-in_default : goal.returns-in_default
returns-in_default c =
    let few = few_lines c.loop-at.invariant c.loop-at-test.true c.well_formed.0.1 in
    lines_stop c.loop-at.invariant c.loop-at-test.true few c.word_at.ensures c.in_default.is

pub overflow_add-lines : goal.overflow_add-lines
overflow_add-lines c = omega (arith, few_lines c.loop-at.invariant c.loop-at-test.true c.well_formed.0.1)

pub loop-at-smaller : goal.loop-at-smaller
loop-at-smaller c =
    let few = few_lines c.loop-at.invariant c.loop-at-test.true c.well_formed.0.1 in
    omega (arith, c.loop-at-test.true, lines_further c.loop-at.invariant c.loop-at-test.true few c.word_at.ensures c.in-Some.is)

pub loop-at-preserved : goal.loop-at-preserved
loop-at-preserved c =
    let few = few_lines c.loop-at.invariant c.loop-at-test.true c.well_formed.0.1 in
    rw c.keep.ensures (lines_more c.loop-at.invariant c.loop-at-test.true few c.word_at.ensures c.in-Some.is)

pub shape_of-words : goal.shape_of-words
shape_of-words c = same_long c.loop-at.invariant

pub returns : goal.returns
returns c = lines_done c.loop-at.invariant c.loop-at-test.false
