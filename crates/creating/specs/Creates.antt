-- The code of figure 6 over a list of kinds, and for the pattern of a row within its budget.
use Rattle.std.specs.Prelude.{ℕ, List}
use Rattle.patterns.specs.Pattern.{Key, Pattern, Parts}
use Rattle.theory.specs.Emission.{Env, Emitted}
use Rattle.numbers.specs.Kinds.{kind_in}
use Rattle.theory.specs.Compilers.{creating, compile↑K, compile↑, compile↑parts}
use Rattle.emission.specs.declared.Part.{Part}
use Rattle.knowing.specs.Meets.{Does}
use Rattle.knowing.specs.declared.Emission.{Emission}
use Rattle.patterns.specs.Standing.{pattern_in}
use Rattle.emission.specs.Budget.{most_words, most_scratches}
use Rattle.emission.specs.Parts.{DoesParts}

unfoldable pub variable_code : List ℕ → ℕ → ℕ → Env → Emitted
variable_code kinds row v = creating (kind_in kinds) row v

unfoldable pub key_code : List ℕ → ℕ → Key → Env → Emitted
key_code kinds row key = compile↑K (kind_in kinds) row key

unfoldable pub pattern_code : List ℕ → Pattern → Env → Emitted
pattern_code kinds p = compile↑ (kind_in kinds) p

unfoldable pub parts_code : List ℕ → Parts → ℕ → ℕ → Env → Emitted
parts_code kinds ps row first = compile↑parts (kind_in kinds) ps row first

abbrev pub Creates : List ℕ → List ℕ → ℕ → Emission → List ℕ → Emission → List ℕ → Type 0
Creates rows kinds row e code e' code' =
    Does (pattern_code kinds (pattern_in rows row)) (most_words (pattern_in rows row)) (most_scratches (pattern_in rows row)) e code e' code'

abbrev pub CreatesParts : List ℕ → List ℕ → ℕ → List Part → Emission → List ℕ → Emission → List ℕ → Type 0
CreatesParts rows kinds row parts e code e' code' = DoesParts (parts_code kinds) rows row parts e code e' code'
