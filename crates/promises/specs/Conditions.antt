-- The conditions of document 01's numbers, as propositions.
use Rattle.std.specs.Prelude.{ℕ, ◌+◌, ◌-◌, ◌<◌, ◌≤◌, ◌≡◌, ◌≢◌, ◌⊎◌, Bool, List, length, get_or}
use Rattle.word.specs.Lowest.{LowestWith, NoneWith, LowestBad, AllGood}
use Rattle.code.specs.GoodWords.{LowestBadWord, AllGoodWords}
use Rattle.terms.specs.Row.{row_at}
use Rattle.terms.specs.Rules.{used_rows}
use Rattle.terms.specs.Table.{Sound}
use Rattle.stores.specs.Cells.{unset}
use Rattle.patterns.specs.Tree.{pattern_of}
use Rattle.patterns.specs.GoodRow.{fields_at, BadRow, Unnamed}
use Rattle.patterns.specs.RightRow.{RightRow}
use Rattle.numbers.specs.Limits.{most_names, variables, most_code_words}
use Rattle.theory.specs.Machine.{Line}
use Rattle.theory.specs.Emission.{Env, Emitted, ok}
use Rattle.numbers.specs.Kinds.{kind_in}
use Rattle.calls.specs.Compile.{tables, entry}
use Rattle.calls.specs.Run.{Lent}
pub use Rattle.calls.specs.Valid.{CompileWithin, LentWithin, ValidStores, Valid}

-- a cell by its number
abbrev pub cell : List ℕ → ℕ → ℕ
cell cells i = get_or cells i unset

-- COMPILE

-- 3: a kind above 10, or an undeclared variable that is set
pub record BadVariable (kinds objects : List ℕ) : Type 0 where
  pub variable : ℕ
  pub inside : variable < variables
  pub bad : (10 < kind_in kinds variable) ⊎ ((kind_in kinds variable ≡ 0) × (cell objects variable ≢ unset))

-- 4: the lowest row bad in itself or naming a child already taken, else the lowest row nobody names; the last row is the root
abbrev pub BadPatternAt : List ℕ → ℕ → Type 0
BadPatternAt pattern row =
    LowestWith (BadRow pattern) (length pattern) row ⊎ (NoneWith (BadRow pattern) (length pattern) × LowestWith (Unnamed pattern) (length pattern - 1) row)

abbrev pub GoodPattern : List ℕ → Type 0
GoodPattern pattern = NoneWith (BadRow pattern) (length pattern) × NoneWith (Unnamed pattern) (length pattern - 1)

-- 5: the lowest row with a wrong kind
abbrev pub WrongKindAt : Bool → List ℕ → List ℕ → ℕ → Type 0
WrongKindAt create kinds pattern row = LowestBad (λ row. RightRow create (kind_in kinds) (fields_at pattern row)) (length pattern) row

abbrev pub RightPattern : Bool → List ℕ → List ℕ → Type 0
RightPattern create kinds pattern = AllGood (λ row. RightRow create (kind_in kinds) (fields_at pattern row)) (length pattern)

-- neither 1, 3, 4 nor 5
pub record CompileChecked (create : Bool) (pattern kinds objects named : List ℕ) : Type 0 where
  pub within : CompileWithin pattern kinds objects named
  pub declared : BadVariable kinds objects → ⊥
  pub rows : GoodPattern pattern
  pub right : RightPattern create kinds pattern

-- 6 and 7: what figure 6, for creating, or figure 5 emits, or where it stops
abbrev pub emission : Bool → List ℕ → List ℕ → List ℕ → List ℕ → Emitted
emission create pattern kinds objects named = tables create (kind_in kinds) (pattern_of pattern) (entry objects named)

-- 8 and 0: code of so many words
pub record Emits (create : Bool) (pattern kinds objects named : List ℕ) (words : ℕ) : Type 0 where
  pub lines : List Line
  pub env : Env
  pub emits : emission create pattern kinds objects named ≡ ok lines env
  pub count : length lines ≡ words

-- RUN

-- not 1: what is lent is within its limits, and there are at most 768 words
abbrev pub RunWithin : Lent → List ℕ → Type 0
RunWithin x code = LentWithin x × (length code ≤ most_code_words)

-- 2: the lowest row that breaks a rule
abbrev pub BadTermAt : Lent → ℕ → Type 0
BadTermAt x row = LowestBad (λ row. Sound x.terms x.counter row (row_at x.terms row)) (length x.terms) row

-- 9: the lowest bad word
abbrev pub BadWordAt : Lent → List ℕ → ℕ → Type 0
BadWordAt x code word = LowestBadWord (kind_in x.kinds) code word

-- neither 1, 2 nor 3, nor 9: the steps are taken
pub record RunChecked (x : Lent) (code : List ℕ) : Type 0 where
  pub valid : Valid x
  pub few : length code ≤ most_code_words
  pub words : AllGoodWords (kind_in x.kinds) code

-- so many rows and names are free
pub record Room (x : Lent) (count : ℕ) : Type 0 where
  pub rows : used_rows x.terms + count ≤ length x.terms
  pub names : x.counter + count ≤ most_names
