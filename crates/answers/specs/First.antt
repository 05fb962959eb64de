-- Checks in their order: the answer is the first refusal.
use Rattle.std.specs.Prelude.{Bool, true, false, List, [], ◌∷◌}
use Rattle.std.specs.Prelude.{Option, None, Some}

module _ {A : Type 0} where
  -- a refusal where a test holds
  abbrev pub when : Bool → A → Option A
  when true answer = Some answer
  when false answer = None

  unfoldable pub first : List (Option A) → Option A
  first [] = None
  first (Some answer ∷ rest) = Some answer
  first (None ∷ rest) = first rest
