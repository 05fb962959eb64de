use mathlib.Core.Path.{sym}
use Rattle.std.specs.Prelude.{Option}
use Prim.Native.Nat.{ℕ}
use native.Mathlib.Omega.{arith}
use lib.ListN.{get_or, take}
use lib.Seq.{length-take-le}
use Rattle.word.proofs.ScanLaws.{placed_at, placed_nowhere}
use Rattle.code.specs.Words.{bad_word}
use Rattle.code_reading.proofs.DeliverLaws.{too_many_lines, kinds_limit, bad_word_found, words_found}
use Rattle.code_reading.proofs.look_words.Goals as goal

pub returns-then-lines-gt-MOST_CODE_WORDS : goal.returns-then-lines-gt-MOST_CODE_WORDS
returns-then-lines-gt-MOST_CODE_WORDS c = too_many_lines c.args.lines _ c.args.kinds.now c.if-lines-gt-MOST_CODE_WORDS.true

pub returns-then-kinds-ne-VARIABLES : goal.returns-then-kinds-ne-VARIABLES
returns-then-kinds-ne-VARIABLES c = kinds_limit c.args.lines _ c.args.kinds.now c.if-lines-gt-MOST_CODE_WORDS.false c.if-kinds-ne-VARIABLES.true

pub slice_bounds-read-end : goal.slice_bounds-read-end
slice_bounds-read-end c = sym (length-take-le c.args.lines c.args.words.now (omega arith))

pub first_bad_word-requires : goal.first_bad_word-requires
first_bad_word-requires c = omega (arith, length-take-le c.args.lines c.args.words.now (omega arith))

pub returns-in-Some : goal.returns-in-Some
returns-in-Some c =
    let bad : Option ℕ = bad_word (λ n. get_or c.args.kinds.now n 0) (take c.args.lines c.args.words.now) in
    bad_word_found c.args.lines _ c.args.kinds.now c.if-lines-gt-MOST_CODE_WORDS.false c.if-kinds-ne-VARIABLES.false
    (placed_at bad c.first_bad_word.ensures c.in-Some.is)

pub returns : goal.returns
returns c =
    let bad : Option ℕ = bad_word (λ n. get_or c.args.kinds.now n 0) (take c.args.lines c.args.words.now) in
    words_found c.args.lines _ c.args.kinds.now c.if-lines-gt-MOST_CODE_WORDS.false c.if-kinds-ne-VARIABLES.false
    (placed_nowhere bad c.first_bad_word.ensures c.in_default.is)
