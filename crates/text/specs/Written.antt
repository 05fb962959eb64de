-- What a function that writes text leaves: the text from a place on, and the place after it. A byte past the slice is no byte.
use Rattle.std.specs.Prelude.{ℕ, ◌+◌, ◌≡◌, List, length}
use Rattle.std.proofs.lemmas.List.Edits.{sets}

pub record Wrote (text : List ℕ) (before : List ℕ) (at : ℕ) (after : List ℕ) (next : ℕ) : Type 0 where
  pub bytes : after ≡ sets before at text
  pub place : next ≡ at + length text
