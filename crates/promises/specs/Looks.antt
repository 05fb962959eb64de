-- The order of 6 and 7, a line a form: emission looks at what the lines say.
use Rattle.std.specs.Prelude.{ℕ, ◌≡◌, Bool}
use Rattle.numbers.specs.Limits.{named_cells}
use Rattle.patterns.specs.Pattern.{Pattern, RawsBelow}
use Rattle.theory.specs.Emission.{Env}
use Rattle.calls.specs.Compile.{tables}
use Rattle.calls.specs.Looks.{judged, looks_of, known_in, verdict_of}

pub record Looks : Type 0 where
  -- emission stops exactly where the looks do, with the same answer, and leaves set what they leave set
  pub looks : (create : Bool) (kind : ℕ → ℕ) (p : Pattern) (e : Env) → RawsBelow named_cells p → verdict_of (tables create kind p e) ≡ judged kind (looks_of create p) (known_in e)
