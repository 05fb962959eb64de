-- `machine::tuples::spread` meets its contract: after i turns the first i parts are written.
use Prim.Native.Nat.{◌+◌}
use mathlib.Core.Path.{◌≡◌}
use Rattle.word.specs.Fields.{split, at}
use Rattle.terms.specs.Row.{term_widths}
use Rattle.machine.specs.Machine.{spread}
use Rattle.machine.proofs.tuples.spread.Given as goal

abbrev pub invariant-loop-i : goal.invariant-loop-i
invariant-loop-i l = l.messages ≡ spread l.initial.messages l.from l.i (λ k. at (3 + k) (split term_widths l.word))
