-- What run comes to, answer by answer: its checks in their order, then the steps.
use Prim.Native.Nat.{ℕ}
use mathlib.Core.Path.{◌≡◌, refl, sym, ◌∙◌, ap, subst}
use mathlib.Core.Logic.{◌≢◌}
use mathlib.Core.Bool.{Bool, true, false, not}
use Rattle.std.specs.Prelude.{Option, None, Some}
use Rattle.std.specs.Option.{option_map}
use mathlib.Core.List.{List, [], ◌∷◌}
use native.Mathlib.Omega.{arith}
use lib.Dec.{T}
use lib.ListN.{length, get_or}
use Rattle.answers.specs.Numbers.{reason_number, reason_of, ran_number, ran_place, ran_reason}
use Rattle.answers.specs.declared.Ran.{Ran}
use Rattle.answers.specs.declared.Ran.TheVariants.{Done, Limit, BadTerm, BadStore, BadWord, Stuck, NoRoom}
use Rattle.answers.proofs.NumberLaws.{reason_known}
use Rattle.code.specs.Words.{bad_word}
use Rattle.terms.specs.Rules.{bad_term}
use Rattle.theory.specs.Outcome.{Outcome, done, stuck, room}
use Rattle.theory.specs.RowModel.{row_world}
use Rattle.theory.specs.Machine.{State}
use Rattle.answers.specs.First.{when, first}
use Rattle.numbers.specs.Kinds.{kind_in}
use Rattle.calls.specs.Run.{Lent, RunOutcome, state_of, lines_of, unchanged, left_by, ended, lengths_fit, run_by, run}
use Rattle.theory.proofs.Models.{calm_rows}
use Rattle.calls.proofs.CompileLaws.{passes_when, fails_when}
use Rattle.calls.proofs.RunLaws.{stores_fit, steps_of, Passed, run_steps}
use Rattle.promises.specs.Answers.{RunAnswers, run_number}
use Rattle.promises.proofs.StepLaws.{exec_reasoned, reason_back}

-- what each answer says
abbrev pub RunGives : Lent → List ℕ → Ran → Type 0
RunGives x code Limit = T (lengths_fit x code) → ⊥
RunGives x code (BadTerm row) = T (lengths_fit x code) × (bad_term x.terms x.counter ≡ Some row)
RunGives x code BadStore = T (lengths_fit x code) × (bad_term x.terms x.counter ≡ None) × (T (stores_fit x) → ⊥)
RunGives x code (BadWord word) = T (lengths_fit x code) × (bad_term x.terms x.counter ≡ None) × T (stores_fit x) × (bad_word (kind_in x.kinds) code ≡ Some word)
RunGives x code (Stuck word reason) = Passed x code × (steps_of x code ≡ stuck word (reason_number reason))
RunGives x code (NoRoom word) = Passed x code × (steps_of x code ≡ room word)
RunGives x code (Done words) = Passed x code × (words ≡ length code) × ((t : State row_world) × (steps_of x code ≡ done t))

-- and what it leaves
abbrev pub RunLeaves : Lent → List ℕ → RunOutcome → Type 0
RunLeaves x code o = RunGives x code o.answer × ((run_number o ≢ 0 → o ≡ unchanged o.answer x) ×
    ((t : State row_world) → steps_of x code ≡ done t → run_number o ≡ 0 → o ≡ left_by (Done (length code)) t))

module _ (x : Lent) (code : List ℕ) where
  refused : (answer : Ran) → ran_number answer ≢ 0 → RunGives x code answer → RunLeaves x code (unchanged answer x)
  refused answer nonzero gives = (gives, (λ _. refl, λ t e z. absurd (nonzero z)))

  by_steps : Passed x code → (o : Outcome (State row_world)) → steps_of x code ≡ o → RunLeaves x code (ended (length code) x o)
  unfolding left_by
  by_steps p (done t) e = ((p, refl, (t, e)), (λ n. absurd (n refl), λ u q z. let same : t ≡ u = cc in ap (left_by (Done (length code))) same))
  by_steps p (stuck word why) e =
      refused (Stuck word (reason_of why)) (λ z. omega arith)
      (p, e ∙ ap (stuck word) (sym (reason_back why (exec_reasoned calm_rows (kind_in x.kinds) (lines_of code) (state_of x) e))))
  by_steps p (room word) e = refused (NoRoom word) (λ z. omega arith) (p, e)

  -- one look after another
  by_looks : (a b : Bool) (rows words : Option ℕ) → lengths_fit x code ≡ a → bad_term x.terms x.counter ≡ rows → stores_fit x ≡ b → bad_word (kind_in x.kinds) code ≡ words
      → RunLeaves x code (run_by x code (first (when (not a) Limit ∷ option_map BadTerm rows ∷ when (not b) BadStore ∷ option_map BadWord words ∷ [])))
  unfolding first
  by_looks false b rows words e f g h = refused Limit (λ z. omega arith) (rw e λ n. n)
  by_looks true b (Some row) words e f g h = refused (BadTerm row) (λ z. omega arith) (rw e tt, f)
  by_looks true false None words e f g h = refused BadStore (λ z. omega arith) (rw e tt, f, rw g λ n. n)
  by_looks true true None (Some word) e f g h = refused (BadWord word) (λ z. omega arith) (rw e tt, f, rw g tt, h)
  by_looks true true None None e f g h = by_steps (record { lengths = rw e tt; rows = f; stores = rw g tt; words = h }) (steps_of x code) refl

  run_leaves : RunLeaves x code (run x code)
  unfolding run
  run_leaves = by_looks (lengths_fit x code) (stores_fit x) (bad_term x.terms x.counter) (bad_word (kind_in x.kinds) code) refl refl refl refl

  -- the answer says it
  pub run_gives : {answer : Ran} → (run x code).answer ≡ answer → RunGives x code answer
  run_gives e = subst (RunGives x code) e run_leaves.0

  pub run_unchanged : run_number (run x code) ≢ 0 → run x code ≡ unchanged (run x code).answer x
  run_unchanged = run_leaves.1.0

  pub run_left : (t : State row_world) → steps_of x code ≡ done t → run_number (run x code) ≡ 0 → run x code ≡ left_by (Done (length code)) t
  run_left = run_leaves.1.1

-- the answer of a number, a place and a reason
abbrev pub ran_of : ℕ → ℕ → ℕ → Ran
ran_of number place reason =
    get_or
    (Done place ∷ Limit ∷ BadTerm place ∷ BadStore ∷ Limit ∷ Limit ∷ Limit ∷ Limit ∷ Limit ∷ BadWord place ∷ Stuck place (reason_of reason) ∷ NoRoom place ∷ [])
    number Limit

ran_back : (answer : Ran) → ran_of (ran_number answer) (ran_place answer) (ran_reason answer) ≡ answer
ran_back (Done words) = refl
ran_back Limit = refl
ran_back (BadTerm row) = refl
ran_back BadStore = refl
ran_back (BadWord word) = refl
ran_back (Stuck word reason) = ap (Stuck word) (reason_known reason)
ran_back (NoRoom word) = refl

-- a finished run
pub record Finished (x : Lent) (code : List ℕ) : Type 0 where
  pub passed : Passed x code
  pub state : State row_world
  pub steps : steps_of x code ≡ done state
  pub left : run x code ≡ left_by (Done (length code)) state

module _ (x : Lent) (code : List ℕ) where
  answer_is : {number place reason : ℕ} → RunAnswers (run x code) number place reason → (run x code).answer ≡ ran_of number place reason
  answer_is a = sym (ran_back (run x code).answer) ∙ λ i. ran_of (a.0 i) (a.1 i) (a.2 i)

  pub answered : {number place reason : ℕ} → RunAnswers (run x code) number place reason → RunGives x code (ran_of number place reason)
  answered a = run_gives x code (answer_is a)

  pub answered_stuck : {word reason : ℕ} → RunAnswers (run x code) 10 word reason → Passed x code × (steps_of x code ≡ stuck word reason)
  answered_stuck {word} {reason} a =
      let (p, e) = answered a in
      let same : reason_number (reason_of reason) ≡ reason = sym (ap ran_reason (answer_is a)) ∙ a.2 in
      (p, e ∙ ap (stuck word) same)

  pub finished : run_number (run x code) ≡ 0 → Finished x code
  finished e =
      let (p, _, (t, q)) = answered (e, refl, refl) in
      record { passed = p; state = t; steps = q; left = run_left x code t q e }

  -- and what is said is answered
  run_limit : RunGives x code Limit → (run x code).answer ≡ Limit
  unfolding run first
  run_limit h = rw (fails_when (lengths_fit x code) Limit h)

  run_bad_term : (row : ℕ) → RunGives x code (BadTerm row) → (run x code).answer ≡ BadTerm row
  unfolding run first
  run_bad_term row h = rw (passes_when (lengths_fit x code) Limit h.0, h.1)

  run_bad_store : RunGives x code BadStore → (run x code).answer ≡ BadStore
  unfolding run first
  run_bad_store h = rw (passes_when (lengths_fit x code) Limit h.0, h.1, fails_when (stores_fit x) BadStore h.2)

  run_bad_word : (word : ℕ) → RunGives x code (BadWord word) → (run x code).answer ≡ BadWord word
  unfolding run first
  run_bad_word word h = rw (passes_when (lengths_fit x code) Limit h.0, h.1, passes_when (stores_fit x) BadStore h.2, h.3)

  pub gives_run : (answer : Ran) → RunGives x code answer → (run x code).answer ≡ answer
  unfolding left_by
  gives_run Limit h = run_limit h
  gives_run (BadTerm row) h = run_bad_term row h
  gives_run BadStore h = run_bad_store h
  gives_run (BadWord word) h = run_bad_word word h
  gives_run (Stuck word reason) (p, e) = rw (run_steps x code p, e) (ap (Stuck word) (reason_known reason))
  gives_run (NoRoom word) (p, e) = rw (run_steps x code p, e)
  gives_run (Done words) (p, e, (t, q)) = rw (run_steps x code p, q, e)
