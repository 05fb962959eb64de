-- Looks over a pattern that leave no word: emission keeps what is known after them, or the first refusal.
use Rattle.std.specs.Prelude.{ℕ, ◌<◌, ◌≡◌, Bool, true, false, List, length, get_or}
use Rattle.std.specs.Prelude.{None, Some}
use Rattle.numbers.specs.Kinds.{kind_in}
use Rattle.patterns.specs.Pattern.{Parts}
use Rattle.patterns.specs.Standing.{pattern_in, Stands}
use Rattle.patterns.specs.Tree.{parts_by}
use Rattle.calls.specs.Looks.{Look, Verdict, passed, stopped, onward, judged, matching_parts_looks, creating_parts_looks, looks_of, known_in}
use Rattle.knowing.specs.Meets.{env_of}
use Rattle.knowing.specs.declared.Emission.{Emission}

unfoldable pub KeepsBy : Emission → Verdict → Type 0
KeepsBy e (passed k) = (e.refusal ≡ None) × (known_in (env_of e) ≡ k)
KeepsBy e (stopped answer) = e.refusal ≡ Some answer

pub record Keeps (e : Emission) (v : Verdict) : Type 0 where
  pub kept : KeepsBy e v

-- the looks lead from e to e': whatever verdict e keeps, e' keeps that and then theirs
pub record Surveys (kind : ℕ → ℕ) (looks : List Look) (e e' : Emission) : Type 0 where
  pub go : (v : Verdict) → Keeps e v → Keeps e' (onward v (judged kind looks))

-- the looks of a row's pattern
abbrev pub SurveysRow : Bool → List ℕ → List ℕ → ℕ → Emission → Emission → Type 0
SurveysRow create rows kinds row e e' = Surveys (kind_in kinds) (looks_of create (pattern_in rows row)) e e'

-- children of a row
pub record ChildrenAt (rows : List ℕ) (row : ℕ) (children : List ℕ) : Type 0 where
  pub stands : Stands rows row
  pub below : (k : ℕ) → k < length children → get_or children k 0 < row

abbrev pub parts_looks_of : Bool → Parts → List Look
parts_looks_of true ps = creating_parts_looks ps
parts_looks_of false ps = matching_parts_looks ps

-- the looks of the parts' patterns
abbrev pub SurveysParts : Bool → List ℕ → List ℕ → List ℕ → Emission → Emission → Type 0
SurveysParts create rows kinds children e e' = Surveys (kind_in kinds) (parts_looks_of create (parts_by (pattern_in rows) children)) e e'
