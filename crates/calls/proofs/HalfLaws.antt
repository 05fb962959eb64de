-- A half: what it has passed, the limits of its code, and compile over cells as the half from those that are set.
use mathlib.Core.Path.{◌≡◌, refl, sym, ◌∙◌, ap}
use mathlib.Core.Bool.{Bool, true, false, not, ◌&&◌, ◌||◌, and-true}
use Rattle.std.specs.Prelude.{Option, None, Some}
use mathlib.Core.List.{List, [], ◌∷◌}
use Prim.Native.Nat.{ℕ, zero, suc, ◌+◌, ◌≤◌}
use native.Mathlib.Nat.{add-zero, zero-add}
use native.Mathlib.Omega.{arith}
use lib.Dec.{T, eqb}
use lib.ListN.{length, get_or, length-map}
use Rattle.word.proofs.TestLaws.{both, twice, equals, at_most}
use Rattle.numbers.specs.Kinds.{kind_in}
use Rattle.answers.specs.First.{first}
use Rattle.answers.specs.declared.Compiled.{Compiled}
use Rattle.answers.specs.declared.Compiled.TheVariants.{Limit, BadStore, BadPattern, WrongKind}
use Rattle.code.specs.Instruction.{word_of}
use Rattle.stores.specs.Cells.{is_set, unset}
use Rattle.stores.specs.Valid.{kinds_fit, each_variable, undeclared_unset, declared}
use Rattle.patterns.specs.Rules.{bad_pattern}
use Rattle.patterns.specs.Kinds.{wrong_kind}
use Rattle.theory.specs.Machine.{Line}
use Rattle.theory.specs.Emission.{Env, ok, refuse}
use Rattle.theory.specs.Bounds.{InLimits}
use Rattle.calls.specs.Compile.{entry, code_words, finished, lengths_fit, refusals, compile_by, compile}
use Rattle.calls.specs.Half.{undeclared_unknown, declared_known, known_fit, known_refusals, known_emitted, half_by, half}
use Rattle.calls.proofs.CompileLaws.{NotDone, refusal_not_done, first_none, first_nothing, first_some, when_none, when_some, map_none, map_some}
use Rattle.calls.proofs.Product.{Given, given, given_refuses, given_limits}

-- lengths that fit
pub record KnownWithin (rows kinds : List ℕ) : Type 0 where
  pub least : 1 ≤ length rows
  pub most : length rows ≤ 96
  pub kinds_length : length kinds ≡ 64

pub known_within : (rows kinds : List ℕ) → T (known_fit (length rows) (length kinds)) → KnownWithin rows kinds
known_within rows kinds = simp (both, equals, at_most) λ h. record { least = h.0.0; most = h.0.1; kinds_length = h.1 }

module _ (create : Bool) (rows kinds : List ℕ) (objects : ℕ → Bool) where
  -- no refusal of 1, 3, 4 and 5
  pub record KnownPassed : Type 0 where
    pub lengths : KnownWithin rows kinds
    pub cells : T (declared_known kinds objects)
    pub rows_good : bad_pattern rows ≡ None
    pub right : wrong_kind create (kind_in kinds) rows ≡ None

  pub known_passed : first (known_refusals create rows kinds objects) ≡ None → KnownPassed
  known_passed e =
      let (limits, e) = first_none _ _ e in
      let (cells, e) = first_none _ _ e in
      let (bad, e) = first_none _ _ e in
      let (wrong, e) = first_none _ _ e in
      record {
        lengths = known_within rows kinds ((twice (known_fit (length rows) (length kinds))).0 (when_none (not (known_fit (length rows) (length kinds))) Limit limits));
        cells = (twice (declared_known kinds objects)).0 (when_none (not (declared_known kinds objects)) BadStore cells);
        rows_good = map_none BadPattern (bad_pattern rows) bad;
        right = map_none WrongKind (wrong_kind create (kind_in kinds) rows) wrong;
      }

  -- 1, 3, 4 and 5 are not done
  known_not_done : (answer : Compiled) → first (known_refusals create rows kinds objects) ≡ Some answer → NotDone answer
  known_not_done =
      first_some NotDone _ _ (when_some NotDone (not (known_fit (length rows) (length kinds))) Limit λ words e. let z : ◌≡◌ {A = ℕ} 0 1 = cc in omega arith)
      (first_some NotDone _ _ (when_some NotDone (not (declared_known kinds objects)) BadStore λ words e. let z : ◌≡◌ {A = ℕ} 0 1 = cc in omega arith)
      (first_some NotDone _ _ (map_some BadPattern NotDone (λ row words e. let z : ◌≡◌ {A = ℕ} 0 1 = cc in omega arith) (bad_pattern rows))
      (first_some NotDone _ _ (map_some WrongKind NotDone (λ row words e. let z : ◌≡◌ {A = ℕ} 0 1 = cc in omega arith) (wrong_kind create (kind_in kinds) rows))
      (first_nothing NotDone))))

module _ (create : Bool) (rows kinds : List ℕ) (e : Env) (start : e.next ≡ 0) where
  passed_given : (p : KnownPassed create rows kinds e.objects) → Given create rows kinds p.lengths.kinds_length
  passed_given p = given create rows kinds p.lengths.kinds_length p.lengths.least p.lengths.most p.rows_good p.right

  -- a half that refuses is not done
  pub half_refuses : (answer : Compiled) → half create rows kinds e ≡ refuse answer → NotDone answer
  unfolding half
  half_refuses answer = by_refusal (first (known_refusals create rows kinds e.objects)) refl
    where
      by_refusal : (o : Option Compiled) → first (known_refusals create rows kinds e.objects) ≡ o → half_by o (known_emitted create rows kinds e) ≡ refuse answer → NotDone answer
      by_refusal (Some other) p q = let same : other ≡ answer = cc in rw (← same) (known_not_done create rows kinds e.objects other p)
      by_refusal None p q =
          let passed = known_passed create rows kinds e.objects p in
          refusal_not_done (given_refuses create rows kinds passed.lengths.kinds_length (passed_given passed) e start answer q)

  -- one that compiles has passed its checks, and its code is within limits
  pub record HalfDone (lines : List Line) (e' : Env) : Type 0 where
    pub passed : KnownPassed create rows kinds e.objects
    pub emits : known_emitted create rows kinds e ≡ ok lines e'
    pub limits : InLimits (kind_in kinds) lines e'

  pub half_done : (lines : List Line) (e' : Env) → half create rows kinds e ≡ ok lines e' → HalfDone lines e'
  unfolding half
  half_done lines e' = by_refusal (first (known_refusals create rows kinds e.objects)) refl
    where
      by_refusal : (o : Option Compiled) → first (known_refusals create rows kinds e.objects) ≡ o → half_by o (known_emitted create rows kinds e) ≡ ok lines e' → HalfDone lines e'
      by_refusal (Some other) p q = absurd (let z : ◌≡◌ {A = ℕ} 0 1 = cc in omega arith)
      by_refusal None p q =
          let passed = known_passed create rows kinds e.objects p in
          record {
            passed = passed;
            emits = q;
            limits = given_limits create rows kinds passed.lengths.kinds_length (passed_given passed) e start lines e' q;
          }

  pub half_words : (lines : List Line) (e' : Env) → half create rows kinds e ≡ ok lines e' → length (code_words lines) ≤ 767
  half_words lines e' q = omega (arith, length-map lines (λ l. word_of l.instruction), (half_done lines e' q).limits.words)

-- 3, variable after variable
or_true : (b : Bool) → (b || true) ≡ true
or_true true = refl
or_true false = refl

no_cells : (kinds : List ℕ) → each_variable undeclared_unset kinds [] ≡ true
unfolding each_variable
no_cells [] = refl
no_cells (kind ∷ kinds) = refl

undeclared_cells : (n : ℕ) (kinds cells : List ℕ) (set : ℕ → Bool) → ((v : ℕ) → set (n + v) ≡ is_set (get_or cells v unset))
    → undeclared_unknown n kinds set ≡ each_variable undeclared_unset kinds cells
unfolding undeclared_unknown each_variable
undeclared_cells n [] cells set h = refl
undeclared_cells n (kind ∷ kinds) [] set h =
    let here : set n ≡ false = rw add-zero at (h 0) in
    let rest = undeclared_cells (suc n) kinds [] set (λ v. let e : suc n + v ≡ n + suc v = omega arith in rw e (h (suc v))) in
    rw (here, or_true (not (eqb kind 0)), rest, no_cells kinds)
undeclared_cells n (kind ∷ kinds) (cell ∷ cells) set h =
    let here : set n ≡ is_set cell = rw add-zero at (h 0) in
    let rest = undeclared_cells (suc n) kinds cells set (λ v. let e : suc n + v ≡ n + suc v = omega arith in rw e (h (suc v))) in
    rw (here, rest)

-- compile over 64 and 64 cells is the half from those that are set
module _ (create : Bool) (pattern kinds objects named : List ℕ) (objects_length : length objects ≡ 64) (named_length : length named ≡ 64) where
  same_fit : lengths_fit create pattern kinds objects named ≡ known_fit (length pattern) (length kinds)
  same_fit = rw (objects_length, named_length) (and-true _ ∙ and-true _)

  same_declared : declared kinds objects ≡ declared_known kinds (entry objects named).objects
  unfolding declared declared_known
  same_declared = ap (kinds_fit kinds &&◌) (sym (undeclared_cells zero kinds objects (entry objects named).objects (λ v. rw zero-add)))

  pub same_refusals : first (refusals create pattern kinds objects named) ≡ first (known_refusals create pattern kinds (entry objects named).objects)
  same_refusals = rw (same_fit, same_declared)

  pub compile_half : (code : List ℕ) → compile create pattern kinds objects named code ≡ finished (half create pattern kinds (entry objects named)) code
  unfolding compile half
  compile_half code = rw same_refusals (by_refusal (first (known_refusals create pattern kinds (entry objects named).objects)))
    where
      by_refusal : (o : Option Compiled) → compile_by create pattern kinds objects named o code ≡ finished (half_by o (known_emitted create pattern kinds (entry objects named))) code
      by_refusal (Some answer) = refl
      by_refusal None = refl
