-- What compile comes to, answer by answer: its checks in their order, then emission, then the room in the slice.
use Prim.Native.Nat.{ℕ, ◌<◌, ◌≤◌}
use mathlib.Core.Path.{◌≡◌, refl, sym, ◌∙◌, ap, subst}
use mathlib.Core.Logic.{◌≢◌}
use mathlib.Core.Bool.{Bool, true, false, cond, not}
use Rattle.std.specs.Prelude.{Option, None, Some}
use Rattle.std.specs.Option.{option_map}
use mathlib.Core.List.{List, [], ◌∷◌, ◌++◌}
use native.Mathlib.Omega.{arith}
use borrow.Author.Tests.{le-leb, lt-leb}
use lib.Dec.{T, leb, leb→le, nleb→lt}
use lib.ListN.{length, get_or, drop, length-map}
use Rattle.answers.specs.Numbers.{compiled_number, compiled_place}
use Rattle.answers.specs.declared.Compiled.{Compiled}
use Rattle.answers.specs.declared.Compiled.TheVariants.{Done, Limit, BadStore, BadPattern, WrongKind, WrittenWhileSet, ReadWhileUnset, CodeTooShort}
use Rattle.code.specs.Instruction.{word_of}
use Rattle.stores.specs.Valid.{declared}
use Rattle.patterns.specs.Rules.{bad_pattern}
use Rattle.patterns.specs.Kinds.{wrong_kind}
use Rattle.theory.specs.Machine.{Line}
use Rattle.theory.specs.Emission.{Env, Emitted, ok, refuse}
use Rattle.calls.specs.Compile.{CompileOutcome, code_words, leaves, finished, lengths_fit, emitted, compile_by, compile}
use Rattle.answers.specs.First.{when, first}
use Rattle.numbers.specs.Kinds.{kind_in}
use Rattle.numbers.specs.Limits.{variables}
use Rattle.theory.proofs.InLimits.{Refusal, written, read}
use Rattle.calls.proofs.CompileLaws.{passes_when, fails_when, Checked, compile_within}
use Rattle.calls.proofs.Product.{checked_refuses}
use Rattle.promises.specs.Answers.{CompileAnswers, compile_number}
use Rattle.promises.specs.Conditions.{Emits}

module _ (create : Bool) (pattern kinds objects named slice : List ℕ) where
  abbrev fit : Bool
  fit = lengths_fit create pattern kinds objects named

  -- what each answer says
  abbrev pub CompileGives : Compiled → Type 0
  CompileGives Limit = T fit → ⊥
  CompileGives BadStore = T fit × (T (declared kinds objects) → ⊥)
  CompileGives (BadPattern row) = T fit × T (declared kinds objects) × (bad_pattern pattern ≡ Some row)
  CompileGives (WrongKind row) = T fit × T (declared kinds objects) × (bad_pattern pattern ≡ None) × (wrong_kind create (kind_in kinds) pattern ≡ Some row)
  CompileGives (WrittenWhileSet row) = Checked create pattern kinds objects named × (emitted create pattern kinds objects named ≡ refuse (WrittenWhileSet row))
  CompileGives (ReadWhileUnset row) = Checked create pattern kinds objects named × (emitted create pattern kinds objects named ≡ refuse (ReadWhileUnset row))
  CompileGives (CodeTooShort words) = Checked create pattern kinds objects named × Emits create pattern kinds objects named words × (length slice < words)
  CompileGives (Done words) = Checked create pattern kinds objects named × Emits create pattern kinds objects named words × (words ≤ length slice)

  -- and what it leaves
  abbrev CompileLeaves : CompileOutcome → Type 0
  CompileLeaves o =
      CompileGives o.answer
      × ((compile_number o ≢ 0 → o.code ≡ slice)
      × ((lines : List Line) (e : Env) → emitted create pattern kinds objects named ≡ ok lines e → compile_number o ≡ 0 → o.code ≡ code_words lines ++ drop (length lines) slice))

  refused : (answer : Compiled) → compiled_number answer ≢ 0 → CompileGives answer → CompileLeaves (leaves answer slice)
  refused answer nonzero gives = (gives, (λ _. refl, λ lines e q z. absurd (nonzero z)))

  by_room : (lines : List Line) (e : Env) → Checked create pattern kinds objects named → emitted create pattern kinds objects named ≡ ok lines e
      → (words : ℕ) → words ≡ length lines → (b : Bool) → (T b → words ≤ length slice) → (T (not b) → length slice < words)
      → CompileLeaves (cond b (leaves (Done words) (code_words lines ++ drop words slice)) (leaves (CodeTooShort words) slice))
  by_room lines e c q words count true long short = (
    (c, record { lines = lines; env = e; emits = q; count = sym count }, long tt),
    (
      λ n. absurd (n refl),
      λ other e' q' z. let same : lines ≡ other = cc in ap (λ n. code_words lines ++ drop n slice) count ∙ ap (λ l. code_words l ++ drop (length l) slice) same,
    ),
  )
  by_room lines e c q words count false long short =
      refused (CodeTooShort words) (λ z. omega arith) (c, record { lines = lines; env = e; emits = q; count = sym count }, short tt)

  pub kinds_long : Checked create pattern kinds objects named → length kinds ≡ variables
  kinds_long c = ((compile_within create pattern kinds objects named).0 c.lengths).kinds_length

  by_refusal : (answer : Compiled) → Checked create pattern kinds objects named → emitted create pattern kinds objects named ≡ refuse answer → Refusal answer → CompileLeaves (leaves answer slice)
  by_refusal answer c q (written {row}) = refused (WrittenWhileSet row) (λ z. omega arith) (c, q)
  by_refusal answer c q (read {row}) = refused (ReadWhileUnset row) (λ z. omega arith) (c, q)

  by_emission : Checked create pattern kinds objects named → (E : Emitted) → emitted create pattern kinds objects named ≡ E → CompileLeaves (finished E slice)
  by_emission c (refuse answer) q = by_refusal answer c q (checked_refuses create pattern kinds objects named (kinds_long c) c answer q)
  by_emission c (ok lines e) q =
      by_room lines e c q (length (code_words lines)) (length-map lines (λ l. word_of l.instruction)) (leb (length (code_words lines)) (length slice))
      (leb→le (length (code_words lines)) (length slice)) (nleb→lt (length (code_words lines)) (length slice))

  by_looks : (a b : Bool) (rows right : Option ℕ) → fit ≡ a → declared kinds objects ≡ b → bad_pattern pattern ≡ rows → wrong_kind create (kind_in kinds) pattern ≡ right
      → CompileLeaves (compile_by create pattern kinds objects named
      (first (when (not a) Limit ∷ when (not b) BadStore ∷ option_map BadPattern rows ∷ option_map WrongKind right ∷ [])) slice)
  unfolding first
  by_looks false b rows right e f g h = refused Limit (λ z. omega arith) (rw e λ n. n)
  by_looks true false rows right e f g h = refused BadStore (λ z. omega arith) (rw e tt, rw f λ n. n)
  by_looks true true (Some row) right e f g h = refused (BadPattern row) (λ z. omega arith) (rw e tt, rw f tt, g)
  by_looks true true None (Some row) e f g h = refused (WrongKind row) (λ z. omega arith) (rw e tt, rw f tt, g, h)
  by_looks true true None None e f g h =
      by_emission (record { lengths = rw e tt; cells = rw f tt; rows = g; right = h }) (emitted create pattern kinds objects named) refl

  abbrev outcome : CompileOutcome
  outcome = compile create pattern kinds objects named slice

  compile_leaves : CompileLeaves outcome
  unfolding compile
  compile_leaves = by_looks fit (declared kinds objects) (bad_pattern pattern) (wrong_kind create (kind_in kinds) pattern) refl refl refl refl

  -- the answer says it
  pub compile_gives : {answer : Compiled} → outcome.answer ≡ answer → CompileGives answer
  compile_gives e = subst CompileGives e compile_leaves.0

  pub compile_unchanged : compile_number outcome ≢ 0 → outcome.code ≡ slice
  compile_unchanged = compile_leaves.1.0

  pub compile_left : (lines : List Line) (e : Env) → emitted create pattern kinds objects named ≡ ok lines e → compile_number outcome ≡ 0 → outcome.code ≡ code_words lines ++ drop (length lines) slice
  compile_left = compile_leaves.1.1

  -- and what is said is answered
  compile_limit : CompileGives Limit → outcome.answer ≡ Limit
  unfolding compile first
  compile_limit h = rw (fails_when fit Limit h)

  compile_bad_store : CompileGives BadStore → outcome.answer ≡ BadStore
  unfolding compile first
  compile_bad_store h = rw (passes_when fit Limit h.0, fails_when (declared kinds objects) BadStore h.1)

  compile_bad_pattern : (row : ℕ) → CompileGives (BadPattern row) → outcome.answer ≡ BadPattern row
  unfolding compile first
  compile_bad_pattern row h = rw (passes_when fit Limit h.0, passes_when (declared kinds objects) BadStore h.1, h.2)

  compile_wrong_kind : (row : ℕ) → CompileGives (WrongKind row) → outcome.answer ≡ WrongKind row
  unfolding compile first
  compile_wrong_kind row h = rw (passes_when fit Limit h.0, passes_when (declared kinds objects) BadStore h.1, h.2, h.3)

  compile_emits : Checked create pattern kinds objects named → outcome ≡ finished (emitted create pattern kinds objects named) slice
  unfolding compile first
  compile_emits c = rw (passes_when fit Limit c.lengths, passes_when (declared kinds objects) BadStore c.cells, c.rows, c.right)

  -- the words of the lines, and whether they fit
  word_count : (lines : List Line) → length (code_words lines) ≡ length lines
  word_count lines = length-map lines (λ l. word_of l.instruction)

  pub gives_compile : (answer : Compiled) → CompileGives answer → outcome.answer ≡ answer
  gives_compile Limit h = compile_limit h
  gives_compile BadStore h = compile_bad_store h
  gives_compile (BadPattern row) h = compile_bad_pattern row h
  gives_compile (WrongKind row) h = compile_wrong_kind row h
  gives_compile (WrittenWhileSet row) (c, e) = rw (compile_emits c, e)
  gives_compile (ReadWhileUnset row) (c, e) = rw (compile_emits c, e)
  gives_compile (CodeTooShort words) (c, E, l) =
      let fewer : length slice < length (code_words E.lines) = omega (arith, word_count E.lines, E.count) in
      rw (compile_emits c, E.emits, lt-leb (length (code_words E.lines)) (length slice) fewer, word_count E.lines, E.count)
  gives_compile (Done words) (c, E, l) =
      let enough : length (code_words E.lines) ≤ length slice = omega (arith, word_count E.lines, E.count) in
      rw (compile_emits c, E.emits, le-leb (length (code_words E.lines)) (length slice) enough, word_count E.lines, E.count)

-- the answer of a number and a place
abbrev pub compiled_of : ℕ → ℕ → Compiled
compiled_of number place =
    get_or (Done place ∷ Limit ∷ Limit ∷ BadStore ∷ BadPattern place ∷ WrongKind place ∷ WrittenWhileSet place ∷ ReadWhileUnset place ∷ CodeTooShort place ∷ []) number Limit

pub compiled_back : (answer : Compiled) → compiled_of (compiled_number answer) (compiled_place answer) ≡ answer
compiled_back (Done words) = refl
compiled_back Limit = refl
compiled_back BadStore = refl
compiled_back (BadPattern row) = refl
compiled_back (WrongKind row) = refl
compiled_back (WrittenWhileSet row) = refl
compiled_back (ReadWhileUnset row) = refl
compiled_back (CodeTooShort words) = refl

-- 0 is done
pub number_done : (answer : Compiled) → compiled_number answer ≡ 0 → answer ≡ Done (compiled_place answer)
number_done answer e = sym (compiled_back answer) ∙ ap (λ n. compiled_of n (compiled_place answer)) e

pub compile_answered : (create : Bool) (pattern kinds objects named slice : List ℕ) {number place : ℕ} → CompileAnswers (compile create pattern kinds objects named slice) number place
    → CompileGives create pattern kinds objects named slice (compiled_of number place)
compile_answered create pattern kinds objects named slice a =
    compile_gives create pattern kinds objects named slice (sym (compiled_back (compile create pattern kinds objects named slice).answer) ∙ λ i. compiled_of (a.0 i) (a.1 i))
