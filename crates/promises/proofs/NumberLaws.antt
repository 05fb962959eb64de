-- Each number exactly where its condition holds and no earlier one does.
use Prim.Native.Nat.{ℕ, ◌≤◌}
use mathlib.Core.Path.{◌≡◌, refl, sym, ◌∙◌, ap, subst}
use mathlib.Core.Logic.{◌↔◌, ◌≢◌, ◌⊎◌, inl, inr}
use mathlib.Core.Bool.{Bool}
use mathlib.Core.List.{List}
use native.Mathlib.Omega.{arith}
use lib.Dec.{T}
use Rattle.answers.specs.Numbers.{compiled_number, compiled_place, reason_number, reason_of, ran_number, ran_place, ran_reason}
use Rattle.answers.specs.declared.Reason.{Reason}
use Rattle.answers.specs.declared.Reason.TheVariants as Reasons
use Rattle.answers.specs.declared.Compiled.{Compiled}
use Rattle.answers.specs.declared.Compiled.TheVariants as Compiled
use Rattle.answers.specs.declared.Ran.{Ran}
use Rattle.answers.specs.declared.Ran.TheVariants as Ran
use Rattle.code.proofs.WordLaws.{bad_word_iff, no_bad_word_iff}
use Rattle.terms.proofs.TableLaws.{bad_term_at, valid_table}
use Rattle.stores.specs.Valid.{declared}
use Rattle.patterns.proofs.RuleLaws.{bad_pattern_at, bad_pattern_none}
use Rattle.patterns.proofs.RightRow.{wrong_kind_at, wrong_kind_none}
use Rattle.theory.specs.Outcome.{stuck}
use Rattle.calls.specs.Compile.{CompileOutcome, compile}
use Rattle.numbers.specs.Kinds.{kind_in}
use Rattle.calls.specs.Run.{Lent, state_of, lines_of, run}
use Rattle.calls.proofs.CompileLaws.{Checked, compile_within}
use Rattle.theory.proofs.Models.{calm_rows}
use Rattle.calls.proofs.RunLaws.{steps_of, Passed, run_within, stores_valid, passed_valid, valid_passes}
use Rattle.promises.specs.Answers.{CompileAnswers, RunAnswers}
use Rattle.promises.specs.Conditions.{CompileWithin, BadVariable, CompileChecked, RunChecked}
use Rattle.promises.specs.Steps.{After}
use Rattle.promises.specs.Demand1.{CompileTable, RunTable}
use Rattle.promises.proofs.StepLaws.{reason_back, exec_reasoned}
use Rattle.promises.proofs.RunLaws.{answered, answered_stuck, gives_run, run_unchanged}
use Rattle.promises.proofs.WalkLaws.{after_all, at_stuck, at_room}
use Rattle.promises.proofs.ConditionLaws.{bad_variable, no_bad_variable}
use Rattle.promises.proofs.CompileLaws.{CompileGives, compiled_of, compile_answered, gives_compile, compile_unchanged}
use Rattle.promises.proofs.TableLaws.{done_after, stuck_there, room_there}

-- the numbers that come back
pub compiled_range : (answer : Compiled) → (compiled_number answer ≤ 8) × (compiled_number answer ≢ 2)
compiled_range (Compiled.Done words) = omega arith
compiled_range Compiled.Limit = omega arith
compiled_range Compiled.BadStore = omega arith
compiled_range (Compiled.BadPattern row) = omega arith
compiled_range (Compiled.WrongKind row) = omega arith
compiled_range (Compiled.WrittenWhileSet row) = omega arith
compiled_range (Compiled.ReadWhileUnset row) = omega arith
compiled_range (Compiled.CodeTooShort words) = omega arith

ran_range : (answer : Ran) → (ran_number answer ≤ 3) ⊎ ((9 ≤ ran_number answer) × (ran_number answer ≤ 11))
ran_range (Ran.Done words) = inl (omega arith)
ran_range Ran.Limit = inl (omega arith)
ran_range (Ran.BadTerm row) = inl (omega arith)
ran_range Ran.BadStore = inl (omega arith)
ran_range (Ran.BadWord word) = inr (omega arith)
ran_range (Ran.Stuck word reason) = inr (omega arith)
ran_range (Ran.NoRoom word) = inr (omega arith)

reason_range : (reason : Reason) → (1 ≤ reason_number reason) × (reason_number reason ≤ 7)
reason_range Reasons.Unset = omega arith
reason_range Reasons.OtherKind = omega arith
reason_range Reasons.Differs = omega arith
reason_range Reasons.PartCount = omega arith
reason_range Reasons.NoCertificate = omega arith
reason_range Reasons.NotOpened = omega arith
reason_range Reasons.NotVerified = omega arith

ran_reason_lem : (answer : Ran) → ran_number answer ≡ 10 → (1 ≤ ran_reason answer) × (ran_reason answer ≤ 7)
ran_reason_lem (Ran.Done words) e = absurd (omega arith)
ran_reason_lem Ran.Limit e = absurd (omega arith)
ran_reason_lem (Ran.BadTerm row) e = absurd (omega arith)
ran_reason_lem Ran.BadStore e = absurd (omega arith)
ran_reason_lem (Ran.BadWord word) e = absurd (omega arith)
ran_reason_lem (Ran.Stuck word reason) e = reason_range reason
ran_reason_lem (Ran.NoRoom word) e = absurd (omega arith)

ran_no_reason : (answer : Ran) → ran_number answer ≢ 10 → ran_reason answer ≡ 0
ran_no_reason (Ran.Done words) d = refl
ran_no_reason Ran.Limit d = refl
ran_no_reason (Ran.BadTerm row) d = refl
ran_no_reason Ran.BadStore d = refl
ran_no_reason (Ran.BadWord word) d = refl
ran_no_reason (Ran.Stuck word reason) d = absurd (d refl)
ran_no_reason (Ran.NoRoom word) d = refl

module _ (create : Bool) (pattern kinds objects named slice : List ℕ) where
  abbrev outcome : CompileOutcome
  outcome = compile create pattern kinds objects named slice

  -- an answer comes back as its number and its place
  says : (answer : Compiled) → outcome.answer ≡ answer → CompileAnswers outcome (compiled_number answer) (compiled_place answer)
  says answer e = (ap compiled_number e, ap compiled_place e)

  told : {number place : ℕ} → CompileAnswers outcome number place → CompileGives create pattern kinds objects named slice (compiled_of number place)
  told = compile_answered create pattern kinds objects named slice

  -- 3
  no_bad : CompileWithin pattern kinds objects named → T (declared kinds objects) ↔ (BadVariable kinds objects → ⊥)
  no_bad w = no_bad_variable kinds objects w.kinds_length w.objects_length

  pub checked : Checked create pattern kinds objects named ↔ CompileChecked create pattern kinds objects named
  checked = (
    λ c.
        let w = (compile_within create pattern kinds objects named).0 c.lengths in
        record { within = w; declared = (no_bad w).0 c.cells; rows = (bad_pattern_none pattern).0 c.rows; right = (wrong_kind_none create (kind_in kinds) pattern c.rows).0 c.right },
    λ c.
        let rows = (bad_pattern_none pattern).1 c.rows in
        record {
          lengths = (compile_within create pattern kinds objects named).1 c.within;
          cells = (no_bad c.within).1 c.declared;
          rows = rows;
          right = (wrong_kind_none create (kind_in kinds) pattern rows).1 c.right;
        },
  )

  pub compile_table : CompileTable create pattern kinds objects named slice
  compile_table =
      let within = compile_within create pattern kinds objects named in
      let gives = gives_compile create pattern kinds objects named slice in
      record {
        limit = (λ a w. told a (within.1 w), λ n. says Compiled.Limit (gives Compiled.Limit λ t. n (within.0 t)));
        bad_store = (
          λ a. let (t, n) = told a in let w = within.0 t in (w, (bad_variable kinds objects w.kinds_length w.objects_length).0 n),
          λ h. let w = h.0 in says Compiled.BadStore (gives Compiled.BadStore (within.1 w, (bad_variable kinds objects w.kinds_length w.objects_length).1 h.1)),
        );
        bad_pattern = λ row. (
          λ a. let (t, d, e) = told a in let w = within.0 t in (w, (no_bad w).0 d, (bad_pattern_at pattern row).0 e),
          λ h. says (Compiled.BadPattern row) (gives (Compiled.BadPattern row) (within.1 h.0, (no_bad h.0).1 h.1, (bad_pattern_at pattern row).1 h.2)),
        );
        wrong_kind = λ row. (
          λ a. let (t, d, e, k) = told a in let w = within.0 t in (w, (no_bad w).0 d, (bad_pattern_none pattern).0 e, (wrong_kind_at create (kind_in kinds) pattern e row).0 k),
          λ h.
              let e = (bad_pattern_none pattern).1 h.2 in
              says (Compiled.WrongKind row) (gives (Compiled.WrongKind row) (within.1 h.0, (no_bad h.0).1 h.1, e, (wrong_kind_at create (kind_in kinds) pattern e row).1 h.3)),
        );
        written_while_set = λ row. (
          λ a. let (c, e) = told a in (checked.0 c, e),
          λ h. says (Compiled.WrittenWhileSet row) (gives (Compiled.WrittenWhileSet row) (checked.1 h.0, h.1)),
        );
        read_while_unset = λ row. (
          λ a. let (c, e) = told a in (checked.0 c, e),
          λ h. says (Compiled.ReadWhileUnset row) (gives (Compiled.ReadWhileUnset row) (checked.1 h.0, h.1)),
        );
        too_short = λ words. (
          λ a. let (c, e, l) = told a in (checked.0 c, e, l),
          λ h. says (Compiled.CodeTooShort words) (gives (Compiled.CodeTooShort words) (checked.1 h.0, h.1, h.2)),
        );
        done = λ words. (
          λ a. let (c, e, l) = told a in (checked.0 c, e, l),
          λ h. says (Compiled.Done words) (gives (Compiled.Done words) (checked.1 h.0, h.1, h.2)),
        );
        left = compile_unchanged create pattern kinds objects named slice;
        range = compiled_range (compile create pattern kinds objects named slice).answer;
      }

module _ (x : Lent) (code : List ℕ) where
  comes : (answer : Ran) → (run x code).answer ≡ answer → RunAnswers (run x code) (ran_number answer) (ran_place answer) (ran_reason answer)
  comes answer e = (ap ran_number e, ap ran_place e, ap ran_reason e)

  passed : Passed x code ↔ RunChecked x code
  passed = (
    λ p. record { valid = passed_valid p; few = ((run_within x code).0 p.lengths).1; words = (no_bad_word_iff (kind_in x.kinds) code).0 p.words },
    λ c. valid_passes c.valid c.few ((no_bad_word_iff (kind_in x.kinds) code).1 c.words),
  )

  stuck_so : (word reason : ℕ) → Passed x code → steps_of x code ≡ stuck word reason → RunAnswers (run x code) 10 word reason
  stuck_so word reason p e =
      let same = reason_back reason (exec_reasoned calm_rows (kind_in x.kinds) (lines_of code) (state_of x) e) in
      let (number, place, why) = comes (Ran.Stuck word (reason_of reason)) (gives_run x code (Ran.Stuck word (reason_of reason)) (p, e ∙ ap (stuck word) (sym same))) in
      (number, place, why ∙ same)

  pub run_table : RunTable x code
  run_table =
      let within = run_within x code in
      let gives = gives_run x code in
      let table = valid_table x.terms x.counter in
      record {
        limit = (λ a w. answered x code a (within.1 w), λ n. comes Ran.Limit (gives Ran.Limit λ t. n (within.0 t)));
        bad_term_lem = λ row. (
          λ a. let (t, e) = answered x code a in (within.0 t, (bad_term_at x.terms x.counter row).0 e),
          λ h. comes (Ran.BadTerm row) (gives (Ran.BadTerm row) (within.1 h.0, (bad_term_at x.terms x.counter row).1 h.1)),
        );
        bad_store = (
          λ a. let (t, e, n) = answered x code a in let w = within.0 t in (w, table.0 e, λ s. n ((stores_valid x).1 s)),
          λ h. comes Ran.BadStore (gives Ran.BadStore (within.1 h.0, table.1 h.1, λ t. h.2 ((stores_valid x).0 t))),
        );
        bad_word = λ word. (
          λ a.
              let (t, e, s, b) = answered x code a in
              let w = within.0 t in
              (w, record { within = w.0; table = table.0 e; stores = (stores_valid x).0 s }, (bad_word_iff (kind_in x.kinds) code word).0 b),
          λ h.
              let v = h.1 in
              comes (Ran.BadWord word) (gives (Ran.BadWord word) (within.1 h.0, table.1 v.table, (stores_valid x).1 v.stores, (bad_word_iff (kind_in x.kinds) code word).1 h.2)),
        );
        stuck = λ word reason. (
          λ a. let (p, e) = answered_stuck x code a in (passed.0 p, stuck_there x code p e),
          λ h. stuck_so word reason (passed.1 h.0) (at_stuck x code h.1),
        );
        no_room = λ word. (
          λ a. let (p, e) = answered x code a in (passed.0 p, room_there x code p e),
          λ h. comes (Ran.NoRoom word) (gives (Ran.NoRoom word) (passed.1 h.0, at_room x code h.1)),
        );
        done = λ words. (
          λ a. let (p, e, (t, q)) = answered x code a in (passed.0 p, e, (t, subst (λ n. After x code n t) (sym e) (done_after x code p q))),
          λ h. comes (Ran.Done words) (gives (Ran.Done words) (passed.1 h.0, h.1, (h.2.0, after_all x code (subst (λ n. After x code n h.2.0) h.1 h.2.1)))),
        );
        left = run_unchanged x code;
        range = ran_range (run x code).answer;
        reason = ran_reason_lem (run x code).answer;
        no_reason = ran_no_reason (run x code).answer;
      }
