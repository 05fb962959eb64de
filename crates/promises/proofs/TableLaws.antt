-- Compile's words are the words of the tables' lines, and run's answer is that of its steps.
use Prim.Native.Nat.{ℕ, ◌≤◌}
use mathlib.Core.Path.{◌≡◌, refl, sym, ◌∙◌, ap, subst}
use mathlib.Core.Bool.{Bool}
use mathlib.Core.List.{List}
use lib.ListN.{length, drop, length-map}
use Rattle.word.proofs.All.{all_map}
use Rattle.answers.specs.Numbers.{compiled_number, compiled_place}
use Rattle.code.proofs.WordLaws.{no_bad_word_iff}
use Rattle.theory.specs.Outcome.{Outcome, done, stuck, room}
use Rattle.theory.specs.RowModel.{row_world}
use Rattle.theory.specs.Machine.{State}
use Rattle.calls.specs.Compile.{SameSet, CompileOutcome, code_words, compiled_code, compile}
use Rattle.numbers.specs.Kinds.{kind_in}
use Rattle.calls.specs.Run.{Lent, run}
use Rattle.theory.specs.Bounds.{AllInRange}
use Rattle.calls.proofs.SetCells as SetCells
use Rattle.calls.proofs.SetCells.{left, wrote, same_cells, same_slices}
use Rattle.calls.proofs.CompileLaws.{part_written}
use Rattle.calls.proofs.CompiledWords.{compiled_words_good}
use Rattle.calls.proofs.Product.{compile_writes}
use Rattle.calls.proofs.RunLaws.{steps_of, Passed}
use Rattle.promises.specs.Answers.{compile_number}
use Rattle.promises.specs.Steps.{After, At}
use Rattle.promises.specs.Demand2.{WritesTable, SameCode, StepByStep}
use Rattle.promises.proofs.RunLaws.{finished, answered, answered_stuck}
use Rattle.promises.proofs.WalkLaws.{Walked, all_done, stuck_at, room_at, walked}
use Rattle.promises.proofs.CompileLaws.{compile_answered, compile_left, kinds_long, number_done}

-- a done compile
pub table_written : (create : Bool) (pattern kinds objects named slice : List ℕ) → compile_number (compile create pattern kinds objects named slice) ≡ 0
    → WritesTable create pattern kinds objects named slice (compile create pattern kinds objects named slice)
table_written create pattern kinds objects named slice e =
    let (c, E, _) = compile_answered create pattern kinds objects named slice (e, refl) in
    let lines = E.lines in
    let q = E.emits in
    let outcome = compile create pattern kinds objects named slice in
    let w = compile_writes create pattern kinds objects named (kinds_long create pattern kinds objects named slice c) slice (compiled_place outcome.answer) (number_done outcome.answer e) in
    let emits = w.compiles.emits in
    let agree : w.compiles.lines ≡ lines = cc in
    let range : AllInRange (kind_in kinds) lines = subst (AllInRange (kind_in kinds)) agree w.limits.lines in
    record {
      lines = lines;
      env = E.env;
      table = q;
      count = (e, sym E.count);
      code = compile_left create pattern kinds objects named slice lines E.env q e;
      words = subst (λ l. length l ≤ 767) agree w.limits.words;
      cells = all_map lines (λ l f. f.cells) range;
      good = (no_bad_word_iff (kind_in kinds) (code_words lines)).0 (compiled_words_good (kind_in kinds) lines range);
    }

-- the used part is the lines' words
pub used_words : {create : Bool} {pattern kinds objects named slice : List ℕ} {o : CompileOutcome} (w : WritesTable create pattern kinds objects named slice o) → compiled_code o ≡ code_words w.lines
used_words {slice = slice} w =
    let count : length (code_words w.lines) ≡ length w.lines = length-map w.lines _ in
    rw (w.count.1, w.code, ← count) (part_written (code_words w.lines) (drop (length (code_words w.lines)) slice))

same_answer : {code code' : List ℕ} {o o' : CompileOutcome} → SetCells.SameCode code code' o o' → o.answer ≡ o'.answer
same_answer left = refl
same_answer (wrote words) = refl

pub same_code : (create : Bool) (pattern kinds : List ℕ) {objects objects' named named' : List ℕ} (slice slice' : List ℕ) → SameSet objects objects' → SameSet named named'
    → length slice ≡ length slice' → SameCode (compile create pattern kinds objects named slice) (compile create pattern kinds objects' named' slice')
same_code create pattern kinds {objects} {objects'} {named} {named'} slice slice' o n l =
    subst (λ c. SameCode c (compile create pattern kinds objects' named' slice')) (sym (same_cells create pattern kinds objects objects' named named' slice o n))
    (record { answer = answers; code = codes })
  where
    answers : (compile create pattern kinds objects' named' slice).answer ≡ (compile create pattern kinds objects' named' slice').answer
    answers = same_answer (same_slices create pattern kinds objects' named' slice slice' l)

    codes : compile_number (compile create pattern kinds objects' named' slice) ≡ 0 → compiled_code (compile create pattern kinds objects' named' slice)
        ≡ compiled_code (compile create pattern kinds objects' named' slice')
    codes e =
        let w = table_written create pattern kinds objects' named' slice e in
        let w' = table_written create pattern kinds objects' named' slice' (ap compiled_number (sym answers) ∙ e) in
        let t = w.table in
        let t' = w'.table in
        let agree : w.lines ≡ w'.lines = cc in
        used_words w ∙ ap code_words agree ∙ sym (used_words w')

-- how the steps ended, word after word
module _ (x : Lent) (code : List ℕ) where
  all_words : (o : Outcome (State row_world)) → Passed x code → steps_of x code ≡ o → Walked x code o
  all_words o p e = subst (Walked x code) e (walked x code ((no_bad_word_iff (kind_in x.kinds) code).0 p.words))

  pub done_after : {t : State row_world} → Passed x code → steps_of x code ≡ done t → After x code (length code) t
  done_after {t} p e = go (all_words (done t) p e)
    where
      go : Walked x code (done t) → After x code (length code) t
      go (all_done a) = a

  pub stuck_there : {place why : ℕ} → Passed x code → steps_of x code ≡ stuck place why → At x code place (stuck place why)
  stuck_there {place} {why} p e = go (all_words (stuck place why) p e)
    where
      go : Walked x code (stuck place why) → At x code place (stuck place why)
      go (stuck_at a) = a

  pub room_there : {place : ℕ} → Passed x code → steps_of x code ≡ room place → At x code place (room place)
  room_there {place} p e = go (all_words (room place) p e)
    where
      go : Walked x code (room place) → At x code place (room place)
      go (room_at a) = a

  pub step_by_step : StepByStep x code (run x code)
  step_by_step = record {
    done = λ a. let f = finished x code a.0 in (f.state, done_after f.passed f.steps, f.left);
    stuck = λ a. let g = answered_stuck x code a in stuck_there g.0 g.1;
    full = λ a. let g = answered x code a in room_there g.0 g.1;
  }
