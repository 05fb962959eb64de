-- A half of a round, from which cells are set: its own 1, 3, 4, 5, then 6 and 7 by emission. A pattern that is compiled alone is one half.
use Rattle.std.specs.Prelude.{ℕ, zero, suc, Bool, true, not, ◌&&◌, ◌||◌, List, [], ◌∷◌, length, eqb, leb}
use Rattle.std.specs.Prelude.{Option, None, Some}
use Rattle.std.specs.Option.{option_map}
use Rattle.numbers.specs.Kinds.{kind_in}
use Rattle.numbers.specs.Limits.{variables, most_pattern_rows}
use Rattle.answers.specs.First.{when, first}
use Rattle.answers.specs.declared.Compiled.{Compiled}
use Rattle.answers.specs.declared.Compiled.TheVariants.{Limit, BadStore, BadPattern, WrongKind}
use Rattle.stores.specs.Valid.{kinds_fit}
use Rattle.patterns.specs.Rules.{bad_pattern}
use Rattle.patterns.specs.Tree.{pattern_of}
use Rattle.patterns.specs.Kinds.{wrong_kind}
use Rattle.theory.specs.Emission.{Env, Emitted, refuse}
use Rattle.calls.specs.Compile.{tables}

-- of the variables from v on, none that is undeclared is set
unfoldable pub undeclared_unknown : ℕ → List ℕ → (ℕ → Bool) → Bool
undeclared_unknown v [] set = true
undeclared_unknown v (kind ∷ kinds) set = (not (eqb kind 0) || not (set v)) && undeclared_unknown (suc v) kinds set

-- 3
unfoldable pub declared_known : List ℕ → (ℕ → Bool) → Bool
declared_known kinds objects = kinds_fit kinds && undeclared_unknown zero kinds objects

-- 1
abbrev pub known_fit : ℕ → ℕ → Bool
known_fit rows kinds = leb 1 rows && leb rows most_pattern_rows && eqb kinds variables

-- 1, 3, 4, 5
abbrev pub known_refusals : Bool → List ℕ → List ℕ → (ℕ → Bool) → List (Option Compiled)
known_refusals create rows kinds objects =
    when (not (known_fit (length rows) (length kinds))) Limit
    ∷ when (not (declared_known kinds objects)) BadStore
    ∷ option_map BadPattern (bad_pattern rows)
    ∷ option_map WrongKind (wrong_kind create (kind_in kinds) rows)
    ∷ []

-- 6 and 7
abbrev pub known_emitted : Bool → List ℕ → List ℕ → Env → Emitted
known_emitted create rows kinds e = tables create (kind_in kinds) (pattern_of rows) e

abbrev pub half_by : Option Compiled → Emitted → Emitted
half_by (Some answer) E = refuse answer
half_by None E = E

unfoldable pub half : Bool → List ℕ → List ℕ → Env → Emitted
half create rows kinds e = half_by (first (known_refusals create rows kinds e.objects)) (known_emitted create rows kinds e)
