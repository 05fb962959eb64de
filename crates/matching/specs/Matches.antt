-- The code of figure 5 for the pattern of a row, within its budget.
use Rattle.std.specs.Prelude.{ℕ, List}
use Rattle.theory.specs.Compilers.{compile↓, compile↓parts}
use Rattle.emission.specs.declared.Part.{Part}
use Rattle.knowing.specs.Meets.{Does}
use Rattle.knowing.specs.declared.Emission.{Emission}
use Rattle.patterns.specs.Standing.{pattern_in}
use Rattle.emission.specs.Budget.{most_words, most_scratches}
use Rattle.emission.specs.Parts.{DoesParts}

abbrev pub Matches : List ℕ → ℕ → Emission → List ℕ → Emission → List ℕ → Type 0
Matches rows row e code e' code' = Does (compile↓ (pattern_in rows row)) (most_words (pattern_in rows row)) (most_scratches (pattern_in rows row)) e code e' code'

abbrev pub MatchesParts : List ℕ → ℕ → List Part → Emission → List ℕ → Emission → List ℕ → Type 0
MatchesParts rows row parts e code e' code' = DoesParts compile↓parts rows row parts e code e' code'
