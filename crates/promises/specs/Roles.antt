-- Roles: document 02's numbers of compiling a role, exactly. A number is given where its condition holds and no earlier one does, half after half, at its place and half;
-- with any answer but 0 all that was lent is as on entry.
use Rattle.std.specs.Prelude.{ℕ, suc, ◌+◌, ◌*◌, ◌/◌, ◌%◌, ◌<◌, ◌≤◌, ◌≡◌, ◌↔◌, ◌≢◌, ◌⊎◌, Bool, List, [], eqb, length, get_or}
use Rattle.numbers.specs.Kinds.{kind_in}
use Rattle.numbers.specs.Limits.{variables, most_pattern_rows, most_rounds}
use Rattle.answers.specs.Numbers.{compiled_number, compiled_place}
use Rattle.answers.specs.declared.Compiled.TheVariants.{WrittenWhileSet, ReadWhileUnset}
use Rattle.patterns.specs.Tree.{pattern_of}
use Rattle.theory.specs.Machine.{Line}
use Rattle.theory.specs.Emission.{Env, Emitted, ok, refuse}
use Rattle.calls.specs.Compile.{entry, tables}
use Rattle.calls.specs.Role.{RoleLent, RoleOutcome, again, sum, role}
use Rattle.promises.specs.Conditions.{BadVariable, BadPatternAt, GoodPattern, WrongKindAt, RightPattern}
use Rattle.promises.specs.Halves.{half_rows}

abbrev pub RoleAnswers : RoleOutcome → ℕ → ℕ → ℕ → Type 0
RoleAnswers o number place half = (compiled_number o.answer ≡ number) × (compiled_place o.answer ≡ place) × (o.half ≡ half)

-- not the call's own 1: two halves a round, 1 to 16 rounds, 64 kinds and cells, one end a round, and the counts' sum is the rows
pub record RoleWithin (ends : List ℕ) (x : RoleLent) : Type 0 where
  pub even : length x.counts % 2 ≡ 0
  pub rounds : (1 ≤ length x.counts / 2) × (length x.counts / 2 ≤ most_rounds)
  pub kinds : length x.kinds ≡ variables
  pub objects : length x.objects ≡ variables
  pub named : length x.named ≡ variables
  pub one_end : length ends ≡ length x.counts / 2
  pub rows : sum x.counts ≡ length x.rows

-- the even halves match, the odd ones create
abbrev pub creates_half : ℕ → Bool
creates_half n = eqb (n % 2) 1

module _ (x : RoleLent) (n : ℕ) where
  -- half n's own rows
  abbrev pub rows_of_half : List ℕ
  rows_of_half = get_or (half_rows x.counts x.rows) n []

  -- not a half's own 1
  abbrev pub FewRows : Type 0
  FewRows = (1 ≤ length rows_of_half) × (length rows_of_half ≤ most_pattern_rows)

  -- neither 1, 3, 4 nor 5; 3 looks at the cells on entry alone
  pub record HalfChecked : Type 0 where
    pub few : FewRows
    pub declared : BadVariable x.kinds x.objects → ⊥
    pub rows : GoodPattern rows_of_half
    pub right : RightPattern (creates_half n) x.kinds rows_of_half

  -- 6 and 7: what figure 6 or figure 5 emits where these cells are set, or where it stops
  abbrev pub half_emission : Env → Emitted
  half_emission set = tables (creates_half n) (kind_in x.kinds) (pattern_of rows_of_half) set

-- the halves before half n are compiled in turn, from the cells that are set on entry: these cells are set then, and they have so many words
pub data Reached (x : RoleLent) : ℕ → Env → ℕ → Type 0 where
  start : Reached x 0 (entry x.objects x.named) 0
  next : {n words : ℕ} {set env : Env} {lines : List Line} → Reached x n set words → HalfChecked x n → half_emission x n set ≡ ok lines env
      → Reached x (suc n) (again env) (words + length lines)

-- it is half n's turn
pub record HalfTurn (ends : List ℕ) (x : RoleLent) (n : ℕ) : Type 0 where
  pub within : RoleWithin ends x
  pub inside : n < length x.counts
  pub set : Env
  pub words : ℕ
  pub reached : Reached x n set words

-- all halves are compiled, and with the INPUT and OUTPUT of each round the role has so many words
pub record WholeRole (ends : List ℕ) (x : RoleLent) (words : ℕ) : Type 0 where
  pub within : RoleWithin ends x
  pub set : Env
  pub halves : ℕ
  pub reached : Reached x (length x.counts) set halves
  pub count : words ≡ halves + 2 * length ends

-- The call's own 1; then half by half its own 1, 3 of half 0 alone, 4, 5, then 6 and 7 by emission; last 8, for the whole role.
module _ (ends slice : List ℕ) (x : RoleLent) where
  abbrev outcome : RoleOutcome
  outcome = role ends slice x

  abbrev Turn : ℕ → Type 0
  Turn n = HalfTurn ends x n

  abbrev Bad : Type 0
  Bad = BadVariable x.kinds x.objects

  pub record RoleTable : Type 0 where
    pub limit : RoleAnswers outcome 1 0 0 ↔ ((RoleWithin ends x → ⊥) ⊎ (Turn 0 × (FewRows x 0 → ⊥)))
    pub half_limit : (n : ℕ) → RoleAnswers outcome 1 0 (suc n) ↔ (Turn (suc n) × (FewRows x (suc n) → ⊥))
    pub bad_store : RoleAnswers outcome 3 0 0 ↔ (Turn 0 × FewRows x 0 × Bad)
    pub bad_pattern : (row n : ℕ) → RoleAnswers outcome 4 row n ↔ (Turn n × FewRows x n × (Bad → ⊥) × BadPatternAt (rows_of_half x n) row)
    pub wrong_kind : (row n : ℕ)
        → RoleAnswers outcome 5 row n ↔ (Turn n × FewRows x n × (Bad → ⊥) × GoodPattern (rows_of_half x n) × WrongKindAt (creates_half n) x.kinds (rows_of_half x n) row)
    pub written_while_set : (row n : ℕ) → RoleAnswers outcome 6 row n ↔ ((turn : Turn n) × HalfChecked x n × (half_emission x n turn.set ≡ refuse (WrittenWhileSet row)))
    pub read_while_unset : (row n : ℕ) → RoleAnswers outcome 7 row n ↔ ((turn : Turn n) × HalfChecked x n × (half_emission x n turn.set ≡ refuse (ReadWhileUnset row)))
    pub too_short : (words : ℕ) → RoleAnswers outcome 8 words 0 ↔ (WholeRole ends x words × (length slice < words))
    pub done : (words : ℕ) → RoleAnswers outcome 0 words 0 ↔ (WholeRole ends x words × (words ≤ length slice))
    -- 0, 3 and 8 are of no half
    pub no_half : (compiled_number outcome.answer ≡ 0) ⊎ (compiled_number outcome.answer ≡ 3) ⊎ (compiled_number outcome.answer ≡ 8) → outcome.half ≡ 0
    pub left : compiled_number outcome.answer ≢ 0 → (outcome.ends ≡ ends) × (outcome.code ≡ slice)
    -- 0, 1 or 3 to 8
    pub range : (compiled_number outcome.answer ≤ 8) × (compiled_number outcome.answer ≢ 2)
