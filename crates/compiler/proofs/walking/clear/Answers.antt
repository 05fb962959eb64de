use mathlib.Core.Path.{◌≡◌}
use native.Mathlib.Omega.{arith}
use lib.ListN.{length}
use Rattle.compiler.specs.CompileKnown.{no_words}
use Rattle.compiler.proofs.walking.clear.Goals as goal

pub returns : goal.returns
unfolding no_words
returns c =
    let long : length c.args.buffer.now ≡ 768 = omega arith in
    rw (c.fill.ensures.after (λ y same. same), long)
