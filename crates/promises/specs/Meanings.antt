-- What a row means, and what a pattern's rows are.
use Rattle.std.specs.Prelude.{ℕ, ◌<◌, ◌≤◌, ◌≡◌, Bool, List, length, get_or}
use Rattle.terms.specs.Row.{shape_of}
use Rattle.terms.specs.Rules.{used_rows}
use Rattle.terms.specs.Table.{ValidTable}
use Rattle.patterns.specs.Pattern.{Pattern, size}
use Rattle.patterns.specs.Laid.{laid, bare, Fits}
use Rattle.patterns.specs.Tree.{pattern_of}
use Rattle.theory.specs.TermModel.{term_of}
use Rattle.theory.specs.Meaning.{reshaped, meaning}
use Rattle.theory.specs.Emission.{Env}
use Rattle.calls.specs.Compile.{tables}
use Rattle.promises.specs.Conditions.{GoodPattern}
use Rattle.calls.specs.Looks.{judged, looks_of, known_in, verdict_of}

pub record Meanings : Type 0 where
  -- a used row means what its shape makes of what its parts mean
  pub means : {rows : List ℕ} {counter : ℕ} → ValidTable rows counter → (row : ℕ) → row < used_rows rows
      → meaning rows row ≡ term_of (reshaped (meaning rows) (shape_of (get_or rows row 0)))
  -- two used rows never mean the same
  pub once : {rows : List ℕ} {counter : ℕ} → ValidTable rows counter → (row other : ℕ) → row < used_rows rows → other < used_rows rows → meaning rows row ≡ meaning rows other → row ≡ other
  -- a pattern that passes 4 is made of all its rows, each once
  pub whole : (rows : List ℕ) → 1 ≤ length rows → GoodPattern rows → size (pattern_of rows) ≡ length rows
  -- every pattern of figure 1 within the widths is the pattern of some rows that pass 4, but for the numbers of its rows
  pub every : (p : Pattern) → Fits p → GoodPattern (laid 0 p) × (bare (pattern_of (laid 0 p)) ≡ bare p)
  -- the order of 6 and 7 for the pattern of any rows
  pub looks : (create : Bool) (kind : ℕ → ℕ) (rows : List ℕ) (e : Env) → verdict_of (tables create kind (pattern_of rows) e) ≡ judged kind (looks_of create (pattern_of rows)) (known_in e)
