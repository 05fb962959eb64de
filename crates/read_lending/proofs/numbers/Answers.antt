use Prim.Native.Nat.{ℕ}
use mathlib.Core.Path.{ap₂}
use Rattle.read_lending.proofs.numbers.Goals as goal

pub returns : goal.returns
returns c = ap₂ (λ (n p : ℕ). record { number = n; place = p }) c.number.ensures.0 c.place.ensures
