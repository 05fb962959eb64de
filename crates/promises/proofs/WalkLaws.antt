-- The steps of a code are one word after another.
use Prim.Native.Nat.{ℕ, zero, suc, ◌+◌, ◌<◌, ◌≤◌}
use mathlib.Core.Path.{◌≡◌, refl, sym, ◌∙◌, ap, subst}
use Rattle.std.specs.Prelude.{Some}
use mathlib.Core.List.{List, [], ◌∷◌}
use native.Mathlib.Omega.{arith}
use lib.ListN.{length, get_or, drop, drop_of_length-le}
use lib.Seq.{drop-cons}
use Rattle.code.specs.Instruction.{instruction_of}
use Rattle.code.specs.declared.Instruction.{Instruction}
use Rattle.code.specs.GoodWords.{AllGoodWords}
use Rattle.theory.specs.Outcome.{Outcome, done, stuck, room, bind}
use Rattle.theory.specs.RowModel.{row_world}
use Rattle.theory.specs.Machine.{Line, line_at, State, step, exec}
use Rattle.numbers.specs.Kinds.{kind_in}
use Rattle.calls.specs.Run.{Lent, state_of, lines_from}
use Rattle.theory.proofs.Models.{calm_rows}
use Rattle.promises.specs.Steps.{Word, After, start, next, At}
use Rattle.promises.proofs.StepLaws.{Ends, goes, sticks, fills, KeptPast, step_ends}
use Rattle.calls.proofs.RunLaws.{steps_of}

module _ (x : Lent) (code : List ℕ) where
  abbrev kind : ℕ → ℕ
  kind = kind_in x.kinds

  -- what is left of the code from a word on
  abbrev rest : ℕ → List Line
  rest place = lines_from place (drop place code)

  first_line : (place : ℕ) (i : Instruction) → place < length code → instruction_of (get_or code place 0) ≡ Some i → rest place ≡ line_at place i ∷ rest (suc place)
  unfolding lines_from
  first_line place i inside says = rw (drop-cons code place 0 inside, says)

  word_exec : {place : ℕ} {s : State row_world} {o : Outcome (State row_world)} → Word x code place s o → exec row_world kind (rest place) s ≡ bind o (exec row_world kind (rest (suc place)))
  word_exec {place} {s} w =
      ap (λ lines. exec row_world kind lines s) (first_line place w.instruction w.inside w.says) ∙ ap (λ o. bind o (exec row_world kind (rest (suc place)))) w.steps

  -- what is left gives the outcome of the whole
  after_exec : {place : ℕ} {s : State row_world} → After x code place s → exec row_world kind (rest place) s ≡ steps_of x code
  after_exec start = refl
  after_exec (next a w) = sym (word_exec w) ∙ after_exec a

  no_lines : (place : ℕ) → length code ≤ place → rest place ≡ []
  unfolding lines_from
  no_lines place past = rw (drop_of_length-le code {i = place} past)

  pub after_all : {t : State row_world} → After x code (length code) t → steps_of x code ≡ done t
  after_all {t} a = sym (after_exec a) ∙ ap (λ lines. exec row_world kind lines t) (no_lines (length code) (omega arith))

  pub at_stuck : {place why : ℕ} → At x code place (stuck place why) → steps_of x code ≡ stuck place why
  at_stuck a = sym (after_exec a.before) ∙ word_exec a.word

  pub at_room : {place : ℕ} → At x code place (room place) → steps_of x code ≡ room place
  at_room a = sym (after_exec a.before) ∙ word_exec a.word

  -- and the other way: the words tell how the steps ended
  pub data Walked : Outcome (State row_world) → Type 0 where
    all_done : {t : State row_world} → After x code (length code) t → Walked (done t)
    stuck_at : {place why : ℕ} → At x code place (stuck place why) → Walked (stuck place why)
    room_at : {place : ℕ} → At x code place (room place) → Walked (room place)

  module _ (good : AllGoodWords kind code) where
    walk : (more place : ℕ) → place + more ≡ length code → (s : State row_world) → After x code place s → Walked (exec row_world kind (rest place) s)
    walk zero place e s a =
        let ended : place ≡ length code = omega arith in
        rw (no_lines place (omega arith)) (all_done (subst (λ n. After x code n s) ended a))
    walk (suc more) place e s a =
        let inside : place < length code = omega arith in
        let word = good place inside in
        rw (first_line place word.instruction inside word.says)
        (by_step (step_ends calm_rows kind place s word.instruction) word.instruction inside word.says refl λ t b. walk more (suc place) (omega arith) t b)
      where
        by_step : {o : Outcome (State row_world)} → Ends place (KeptPast row_world s) o → (i : Instruction) → place < length code → instruction_of (get_or code place 0) ≡ Some i
            → step row_world kind place i s ≡ o → ((t : State row_world) → After x code (suc place) t → Walked (exec row_world kind (rest (suc place)) t))
            → Walked (bind o (exec row_world kind (rest (suc place))))
        by_step (goes {a = t} h) i inside says q onward = onward t (next a (record { inside = inside; instruction = i; says = says; steps = q }))
        by_step (sticks r) i inside says q onward = stuck_at (record { state = s; before = a; word = record { inside = inside; instruction = i; says = says; steps = q } })
        by_step fills i inside says q onward = room_at (record { state = s; before = a; word = record { inside = inside; instruction = i; says = says; steps = q } })

    pub walked : Walked (steps_of x code)
    walked = walk (length code) zero (omega arith) (state_of x) start
