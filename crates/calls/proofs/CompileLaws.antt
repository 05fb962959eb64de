-- What an answer of compile says: each check in its order, then emission, then the room in the slice.
use mathlib.Core.Path.{◌≡◌, refl, sym, ◌∙◌, subst}
use mathlib.Core.Logic.{◌↔◌}
use mathlib.Core.Bool.{Bool, true, false, cond, not}
use Rattle.std.specs.Prelude.{Option, None, Some}
use Rattle.std.specs.Option.{option_map}
use mathlib.Core.List.{List, [], ◌∷◌, ◌++◌}
use Prim.Native.Nat.{ℕ, ◌≤◌}
use native.Mathlib.Omega.{arith}
use borrow.Author.Tests.{le-leb}
use lib.Dec.{T, leb}
use lib.ListN.{length, take, drop, length-map, length-take, length-append}
use lib.Seq.{take-append_seam}
use Rattle.word.proofs.TestLaws.{both, twice, equals, at_most}
use Rattle.answers.specs.declared.Compiled.{Compiled}
use Rattle.answers.specs.declared.Compiled.TheVariants.{Done, Limit, BadStore, BadPattern, WrongKind, CodeTooShort}
use Rattle.code.specs.Instruction.{word_of}
use Rattle.stores.specs.Valid.{declared}
use Rattle.patterns.specs.Rules.{bad_pattern}
use Rattle.patterns.specs.Kinds.{wrong_kind}
use Rattle.theory.specs.Machine.{Line}
use Rattle.theory.specs.Emission.{Env, Emitted, ok, refuse}
use Rattle.answers.specs.First.{when, first}
use Rattle.numbers.specs.Kinds.{kind_in}
use Rattle.calls.specs.Compile.{code_words, used_part, leaves, finished, lengths_fit, refusals, emitted, compile_by, compile}
use Rattle.calls.specs.Valid.{CompileWithin}
use Rattle.theory.proofs.InLimits.{Refusal}

-- an answer that is not done
abbrev pub NotDone : Compiled → Type 0
NotDone answer = (words : ℕ) → answer ≡ Done words → ⊥

pub refusal_not_done : {answer : Compiled} → Refusal answer → NotDone answer
refusal_not_done Refusal.written words e = let z : ◌≡◌ {A = ℕ} 0 1 = cc in omega arith
refusal_not_done Refusal.read words e = let z : ◌≡◌ {A = ℕ} 0 1 = cc in omega arith

-- 1
pub compile_within : (create : Bool) (pattern kinds objects named : List ℕ) → T (lengths_fit create pattern kinds objects named) ↔ CompileWithin pattern kinds objects named
compile_within create pattern kinds objects named =
    simp (both, equals, at_most) (
      λ h. record { pattern_rows_lem = h.0.0.0; kinds_length = h.0.0.1; objects_length = h.0.1; named_length = h.1 },
      λ w. (((w.pattern_rows_lem, w.kinds_length), w.objects_length), w.named_length),
    )

-- the used part, where the slice has so many words; and of a slice with words in front
pub part_fits : (n : ℕ) (code : List ℕ) → n ≤ length code → used_part n code ≡ take n code
unfolding used_part
part_fits n code fits = rw (le-leb n (length code) fits)

pub part_written : (words rest : List ℕ) → used_part (length words) (words ++ rest) ≡ words
part_written words rest = part_fits (length words) (words ++ rest) (omega (arith, length-append words rest)) ∙ take-append_seam words rest

-- no more words than asked for
pub part_length : (n : ℕ) (code : List ℕ) → length (used_part n code) ≤ n
unfolding used_part
part_length n code = go (leb n (length code))
  where
    go : (b : Bool) → length (cond b (take n code) []) ≤ n
    go true = omega (arith, length-take n code)
    go false = omega arith

-- the first refusal of checks in their order
module _ {A : Type 0} where
  pub first_none : (check : Option A) (rest : List (Option A)) → first (check ∷ rest) ≡ None → (check ≡ None) × (first rest ≡ None)
  unfolding first
  first_none None rest e = (refl, e)
  first_none (Some answer) rest e = absurd (let z : ◌≡◌ {A = ℕ} 0 1 = cc in omega arith)

  pub first_nothing : (P : A → Type 0) (answer : A) → first [] ≡ Some answer → P answer
  unfolding first
  first_nothing P answer e = absurd (let z : ◌≡◌ {A = ℕ} 0 1 = cc in omega arith)

  pub first_some : (P : A → Type 0) (check : Option A) (rest : List (Option A)) → ((answer : A) → check ≡ Some answer → P answer)
      → ((answer : A) → first rest ≡ Some answer → P answer) → (answer : A) → first (check ∷ rest) ≡ Some answer → P answer
  unfolding first
  first_some P None rest h g answer e = g answer e
  first_some P (Some other) rest h g answer e = h answer e

  -- of two lists of checks, the first refusal of the one, else that of the other
  pub first_before : (checks more : List (Option A)) (answer : A) → first checks ≡ Some answer → first (checks ++ more) ≡ Some answer
  unfolding first
  first_before [] more answer e = absurd (let z : ◌≡◌ {A = ℕ} 0 1 = cc in omega arith)
  first_before (None ∷ checks) more answer e = first_before checks more answer e
  first_before (Some other ∷ checks) more answer e = e

  pub first_behind : (checks more : List (Option A)) → first checks ≡ None → first (checks ++ more) ≡ first more
  unfolding first
  first_behind [] more e = refl
  first_behind (None ∷ checks) more e = first_behind checks more e
  first_behind (Some other ∷ checks) more e = absurd (let z : ◌≡◌ {A = ℕ} 0 1 = cc in omega arith)

  pub when_none : (b : Bool) (answer : A) → when b answer ≡ None → T (not b)
  when_none true answer e = absurd (let z : ◌≡◌ {A = ℕ} 0 1 = cc in omega arith)
  when_none false answer e = tt

  pub when_some : (P : A → Type 0) (b : Bool) (answer : A) → P answer → (other : A) → when b answer ≡ Some other → P other
  when_some P true answer h other e = let p : answer ≡ other = cc in subst P p h
  when_some P false answer h other e = absurd (let z : ◌≡◌ {A = ℕ} 0 1 = cc in omega arith)

  -- a check that passes, and one that fails
  pub passes_when : (b : Bool) (answer : A) → T b → when (not b) answer ≡ None
  passes_when true answer h = refl
  passes_when false answer h = absurd h

  pub fails_when : (b : Bool) (answer : A) → (T b → ⊥) → when (not b) answer ≡ Some answer
  fails_when true answer h = absurd (h tt)
  fails_when false answer h = refl

module _ {A B : Type 0} (f : A → B) where
  pub map_none : (o : Option A) → option_map f o ≡ None → o ≡ None
  map_none None e = refl
  map_none (Some a) e = absurd (let z : ◌≡◌ {A = ℕ} 0 1 = cc in omega arith)

  pub map_some : (P : B → Type 0) → ((a : A) → P (f a)) → (o : Option A) (b : B) → option_map f o ≡ Some b → P b
  map_some P h None b e = absurd (let z : ◌≡◌ {A = ℕ} 0 1 = cc in omega arith)
  map_some P h (Some a) b e = let p : f a ≡ b = cc in subst P p (h a)

module _ (create : Bool) (pattern kinds objects named : List ℕ) where
  -- no refusal of 1, 3, 4 and 5
  pub record Checked : Type 0 where
    pub lengths : T (lengths_fit create pattern kinds objects named)
    pub cells : T (declared kinds objects)
    pub rows : bad_pattern pattern ≡ None
    pub right : wrong_kind create (kind_in kinds) pattern ≡ None

  pub checked : first (refusals create pattern kinds objects named) ≡ None → Checked
  checked e =
      let (limits, e) = first_none _ _ e in
      let (cells, e) = first_none _ _ e in
      let (rows, e) = first_none _ _ e in
      let (right, e) = first_none _ _ e in
      record {
        lengths = (twice (lengths_fit create pattern kinds objects named)).0 (when_none (not (lengths_fit create pattern kinds objects named)) Limit limits);
        cells = (twice (declared kinds objects)).0 (when_none (not (declared kinds objects)) BadStore cells);
        rows = map_none BadPattern (bad_pattern pattern) rows;
        right = map_none WrongKind (wrong_kind create (kind_in kinds) pattern) right;
      }

  -- 1, 3, 4 and 5 are not done
  pub checks_not_done : (answer : Compiled) → first (refusals create pattern kinds objects named) ≡ Some answer → NotDone answer
  checks_not_done =
      first_some NotDone _ _ (when_some NotDone (not (lengths_fit create pattern kinds objects named)) Limit λ words e. let z : ◌≡◌ {A = ℕ} 0 1 = cc in omega arith)
      (first_some NotDone _ _ (when_some NotDone (not (declared kinds objects)) BadStore λ words e. let z : ◌≡◌ {A = ℕ} 0 1 = cc in omega arith)
      (first_some NotDone _ _ (map_some BadPattern NotDone (λ row words e. let z : ◌≡◌ {A = ℕ} 0 1 = cc in omega arith) (bad_pattern pattern))
      (first_some NotDone _ _ (map_some WrongKind NotDone (λ row words e. let z : ◌≡◌ {A = ℕ} 0 1 = cc in omega arith) (wrong_kind create (kind_in kinds) pattern))
      (first_nothing NotDone))))

  -- a done compile has passed the checks and emitted lines, whose words it wrote
  pub record Compiles (words : ℕ) (after : List ℕ) : Type 0 where
    pub checks : Checked
    pub lines : List Line
    pub env : Env
    pub emits : emitted create pattern kinds objects named ≡ ok lines env
    pub counts : words ≡ length lines
    pub writes : used_part words after ≡ code_words lines

  pub done_compiles : (code : List ℕ) (words : ℕ) → (Checked → (answer : Compiled) → emitted create pattern kinds objects named ≡ refuse answer → Refusal answer)
      → (compile create pattern kinds objects named code).answer ≡ Done words → Compiles words (compile create pattern kinds objects named code).code
  unfolding compile
  done_compiles code words refuses = by_refusal (first (refusals create pattern kinds objects named)) refl
    where
      by_fit : (lines : List Line) (env : Env) → Checked → emitted create pattern kinds objects named ≡ ok lines env → (b : Bool)
          → (cond b (leaves (Done (length (code_words lines))) (code_words lines ++ drop (length (code_words lines)) code)) (leaves (CodeTooShort (length (code_words lines))) code)).answer ≡ Done words
          → Compiles words (cond b (leaves (Done (length (code_words lines))) (code_words lines ++ drop (length (code_words lines)) code)) (leaves (CodeTooShort (length (code_words lines))) code)).code
      by_fit lines env c q true e =
          let n : length (code_words lines) ≡ words = cc in
          record { checks = c; lines = lines; env = env; emits = q; counts = sym n ∙ length-map lines (λ l. word_of l.instruction); writes = rw (← n) (part_written (code_words lines) _) }
      by_fit lines env c q false e = absurd (let z : ◌≡◌ {A = ℕ} 0 1 = cc in omega arith)

      by_emission : (E : Emitted) → Checked → emitted create pattern kinds objects named ≡ E → (finished E code).answer ≡ Done words → Compiles words (finished E code).code
      by_emission (ok lines env) c q e = by_fit lines env c q (leb (length (code_words lines)) (length code)) e
      by_emission (refuse answer) c q e = absurd (refusal_not_done (refuses c answer q) words e)

      by_refusal : (o : Option Compiled) → first (refusals create pattern kinds objects named) ≡ o → (compile_by create pattern kinds objects named o code).answer ≡ Done words
          → Compiles words (compile_by create pattern kinds objects named o code).code
      by_refusal (Some answer) q e = absurd (checks_not_done answer q words e)
      by_refusal None q e = by_emission (emitted create pattern kinds objects named) (checked q) refl e
