-- 10 and 11 by their reasons.
use Prim.Native.Nat.{ℕ}
use mathlib.Core.Path.{refl}
use mathlib.Core.List.{List, [], ◌∷◌}
use lib.Dec.{T}
use lib.ListN.{get_or}
use Rattle.code.specs.Words.{operands_fit}
use Rattle.code.proofs.WordLaws.{good_iff}
use Rattle.numbers.specs.Kinds.{kind_in}
use Rattle.theory.specs.Outcome.{Outcome, done, stuck, room}
use Rattle.theory.specs.RowModel.{row_world}
use Rattle.theory.specs.TermModel.{term_world}
use Rattle.theory.specs.Machine.{State, line_at}
use Rattle.theory.proofs.Fitting.{ByteFits, good_word_fits}
use Rattle.theory.proofs.Related.{OutcomeR, dones}
use Rattle.theory.proofs.RowsRunAsTerms.{ValidState, Reads, terms_of, rows_run_as_terms}
use Rattle.calls.specs.Run.{Lent}
use Rattle.calls.proofs.ValidLent.{valid_state}
use Rattle.promises.specs.Conditions.{RunChecked}
use Rattle.promises.specs.Steps.{Word, After, start, next, At}
use Rattle.promises.specs.Reasons.{Sticks, Fills, Before, ReasonTable}
use Rattle.promises.proofs.ReasonLaws.{step_stuck, step_full}
use Rattle.promises.proofs.NumberLaws.{run_table}

module _ (x : Lent) (code : List ℕ) where
  module _ (c : RunChecked x code) where
    -- a word of checked code fits
    word_fits : {place : ℕ} {s : State row_world} {o : Outcome (State row_world)} (w : Word x code place s o)
        → T (operands_fit (kind_in x.kinds) w.instruction) × ByteFits w.instruction
    word_fits {place} w =
        good_word_fits (kind_in x.kinds) (get_or code place 0) w.instruction w.says ((good_iff (kind_in x.kinds) (get_or code place 0)).1 (c.words place w.inside))

    -- every state on the way is valid
    step_valid : {place : ℕ} {s t : State row_world} → ValidState (kind_in x.kinds) s → Word x code place s (done t) → ValidState (kind_in x.kinds) t
    step_valid {place} {s} {t} v w =
        done_valid (rw w.steps at (rows_run_as_terms (kind_in x.kinds) (line_at place w.instruction ∷ []) s (terms_of s) (word_fits w, tt) (v, refl)))
      where
        done_valid : {o : Outcome (State term_world)} → OutcomeR (Reads (kind_in x.kinds)) (done t) o → ValidState (kind_in x.kinds) t
        done_valid (dones r) = r.0

    after_valid : {place : ℕ} {s : State row_world} → After x code place s → ValidState (kind_in x.kinds) s
    after_valid start = valid_state x c.valid
    after_valid (next a w) = step_valid (after_valid a) w

    why_stuck : (place why : ℕ) → At x code place (stuck place why) → Before x code place λ s i. Sticks s (kind_in x.kinds) i why
    why_stuck place why a =
        let w = a.word in
        record {
          state = a.state;
          after = a.before;
          inside = w.inside;
          instruction = w.instruction;
          says = w.says;
          so = (step_stuck a.state (kind_in x.kinds) place (after_valid a.before) w.instruction why (word_fits w).0).0 w.steps;
        }

    stuck_why : (place why : ℕ) → (Before x code place λ s i. Sticks s (kind_in x.kinds) i why) → At x code place (stuck place why)
    stuck_why place why b =
        let fits = good_word_fits (kind_in x.kinds) (get_or code place 0) b.instruction b.says ((good_iff (kind_in x.kinds) (get_or code place 0)).1 (c.words place b.inside)) in
        record {
          state = b.state;
          before = b.after;
          word = record {
            inside = b.inside;
            instruction = b.instruction;
            says = b.says;
            steps = (step_stuck b.state (kind_in x.kinds) place (after_valid b.after) b.instruction why fits.0).1 b.so;
          };
        }

    why_full : (place : ℕ) → At x code place (room place) → Before x code place λ s i. Fills s (kind_in x.kinds) i
    why_full place a =
        let w = a.word in
        record {
          state = a.state;
          after = a.before;
          inside = w.inside;
          instruction = w.instruction;
          says = w.says;
          so = (step_full a.state (kind_in x.kinds) place (after_valid a.before) w.instruction (word_fits w).0).0 w.steps;
        }

    full_why : (place : ℕ) → (Before x code place λ s i. Fills s (kind_in x.kinds) i) → At x code place (room place)
    full_why place b =
        let fits = good_word_fits (kind_in x.kinds) (get_or code place 0) b.instruction b.says ((good_iff (kind_in x.kinds) (get_or code place 0)).1 (c.words place b.inside)) in
        record {
          state = b.state;
          before = b.after;
          word = record {
            inside = b.inside;
            instruction = b.instruction;
            says = b.says;
            steps = (step_full b.state (kind_in x.kinds) place (after_valid b.after) b.instruction fits.0).1 b.so;
          };
        }

  pub reason_table : ReasonTable x code
  reason_table =
      let table = run_table x code in
      record {
        stuck = λ word reason. (
          λ a. let (c, t) = (table.stuck word reason).0 a in (c, why_stuck c word reason t),
          λ h. (table.stuck word reason).1 (h.0, stuck_why h.0 word reason h.1),
        );
        no_room = λ word. (
          λ a. let (c, t) = (table.no_room word).0 a in (c, why_full c word t),
          λ h. (table.no_room word).1 (h.0, full_why h.0 word h.1),
        );
      }
