use mathlib.Core.Path.{◌≡◌}
use mathlib.Core.Bool.{false}
use native.Mathlib.Omega.{arith}
use Rattle.reading.specs.Rereading.{whole_input}
use Rattle.reading.proofs.RereadingLaws.{not_there, as_told}
use Rattle.reading.proofs.lines.is_whole.Goals as goal

pub returns-then-input-le-MOST_INPUT : goal.returns-then-input-le-MOST_INPUT
returns-then-input-le-MOST_INPUT c = as_told c.args.input.now (omega arith) (omega arith) c.word_at.ensures

pub returns-else-input-le-MOST_INPUT : goal.returns-else-input-le-MOST_INPUT
returns-else-input-le-MOST_INPUT c =
    let other : ◌≡◌ false (whole_input c.args.input.now) = not_there c.args.input.now (λ f. omega (arith, c.if-input-le-MOST_INPUT.either)) in
    cc
