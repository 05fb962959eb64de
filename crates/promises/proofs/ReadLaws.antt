-- Compiled code never reads what is unset.
use Prim.Native.Nat.{ℕ}
use mathlib.Core.Path.{◌≡◌, refl, sym, ◌∙◌, ap}
use mathlib.Core.Logic.{◌≢◌}
use mathlib.Core.Bool.{Bool, true, false}
use Rattle.std.specs.Prelude.{Some}
use mathlib.Core.List.{List, map}
use native.Mathlib.Omega.{arith}
use lib.ListN.{length}
use Rattle.answers.specs.Numbers.{ran_reason}
use Rattle.answers.specs.declared.Ran.{Ran}
use Rattle.answers.specs.declared.Ran.TheVariants as Ran
use Rattle.patterns.specs.Tree.{pattern_of}
use Rattle.patterns.proofs.TreeLaws.{raws_below}
use Rattle.theory.specs.Outcome.{Outcome, done, stuck, room}
use Rattle.theory.specs.RowModel.{row_world}
use Rattle.theory.specs.TermModel.{Term}
use Rattle.theory.specs.Machine.{Line, exec}
use Rattle.numbers.specs.Limits.{variables}
use Rattle.theory.specs.Compilers.{compile↓, compile↑}
use Rattle.numbers.specs.Kinds.{kind_in}
use Rattle.calls.specs.Run.{Lent, state_over, state_of, lines_of, run}
use Rattle.calls.proofs.SetCells.{lent_known}
use Rattle.theory.proofs.Places.{moved_to, same_instructions}
use Rattle.calls.proofs.CompiledWords.{compiled_words_read}
use Rattle.theory.proofs.Theorems.{reads_set_matching, reads_set_creating}
use Rattle.calls.proofs.RunLaws.{steps_of, Passed, passed_valid}
use Rattle.promises.specs.Reading.{message_before}
use Rattle.promises.specs.Demand3.{CodeFor}
use Rattle.promises.proofs.RunLaws.{RunGives, run_gives}
use Rattle.promises.proofs.DecisionLaws.{held_row}
use Rattle.promises.proofs.CodeLaws.{written, own_code}

-- a run with reason 1 has steps that are stuck so
unset_steps : (x : Lent) (code : List ℕ) (answer : Ran) → RunGives x code answer → ran_reason answer ≡ 1 → (word : ℕ) × Passed x code × (steps_of x code ≡ stuck word 1)
unset_steps x code (Ran.Stuck word reason) (p, e) q = (word, p, e ∙ ap (stuck word) q)
unset_steps x code (Ran.Done words) g q = absurd (omega arith)
unset_steps x code Ran.Limit g q = absurd (omega arith)
unset_steps x code (Ran.BadTerm row) g q = absurd (omega arith)
unset_steps x code Ran.BadStore g q = absurd (omega arith)
unset_steps x code (Ran.BadWord word) g q = absurd (omega arith)
unset_steps x code (Ran.NoRoom word) g q = absurd (omega arith)

-- at another place it is stuck for the same reason
stuck_there : {A : Type 0} (o : Outcome A) (why : ℕ) → moved_to 0 o ≡ stuck 0 why → (place : ℕ) × (o ≡ stuck place why)
stuck_there (done a) why e = absurd (let z : ◌≡◌ {A = ℕ} 0 1 = cc in omega arith)
stuck_there (stuck place other) why e = (place, cc)
stuck_there (room place) why e = absurd (let z : ◌≡◌ {A = ℕ} 0 1 = cc in omega arith)

module _ {create : Bool} {pattern : List ℕ} {x : Lent} {code : List ℕ} (c : CodeFor create pattern x code) (p : Passed x code) where
  long : length x.kinds ≡ variables
  long = (passed_valid p).within.kinds

  abbrev lines : List Line
  lines = (written c long).compiles.lines

  -- the lines that the words were written for are stuck for the same reason
  lines_stuck : (word why : ℕ) → steps_of x code ≡ stuck word why → (place : ℕ) × (exec row_world (kind_in x.kinds) lines (state_of x) ≡ stuck place why)
  lines_stuck word why e =
      stuck_there (exec row_world (kind_in x.kinds) lines (state_of x)) why
      (sym (same_instructions row_world (kind_in x.kinds) (lines_of code) lines (state_of x)
      (ap (λ words. map (λ l. l.instruction) (lines_of words)) (own_code c long) ∙ compiled_words_read (kind_in x.kinds) lines (written c long).limits.lines))
      ∙ ap (moved_to 0) e)

pub match_reads : {pattern code : List ℕ} {x : Lent} {m : Term} → CodeFor false pattern x code → message_before x ≡ Some m → ran_reason (run x code).answer ≢ 1
unfolding state_over
match_reads {pattern} {code} {x} {m} c message e =
    let (word, p, h) = unset_steps x code (run x code).answer (run_gives x code refl) e in
    let stuck = lines_stuck c p word 1 h in
    let row = held_row x.terms x.accumulator m message in
    reads_set_matching (kind_in x.kinds) (pattern_of pattern) (raws_below pattern) (state_of x) row.0 row.1
    (ap (compile↓ (pattern_of pattern)) (sym (lent_known x)) ∙ (written c (long c p)).compiles.emits) stuck.0 stuck.1

pub create_reads : {pattern code : List ℕ} {x : Lent} → CodeFor true pattern x code → ran_reason (run x code).answer ≢ 1
create_reads {pattern} {code} {x} c e =
    let (word, p, h) = unset_steps x code (run x code).answer (run_gives x code refl) e in
    let stuck = lines_stuck c p word 1 h in
    reads_set_creating (kind_in x.kinds) (pattern_of pattern) (raws_below pattern) (state_of x)
    (ap (compile↑ (kind_in x.kinds) (pattern_of pattern)) (sym (lent_known x)) ∙ (written c (long c p)).compiles.emits) stuck.0 stuck.1
