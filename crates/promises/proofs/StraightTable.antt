-- The engine's numbers, each exactly where its condition holds and no earlier one does.
use Prim.Native.Nat.{ℕ, ◌≤◌}
use mathlib.Core.Path.{◌≡◌, refl, sym, ◌∙◌, ap}
use mathlib.Core.Logic.{◌↔◌, ◌⊎◌, inl, inr}
use mathlib.Core.Bool.{Bool}
use mathlib.Core.List.{List, []}
use native.Mathlib.Omega.{arith}
use lib.Dec.{T}
use Rattle.numbers.specs.Kinds.{kind_in}
use Rattle.answers.specs.Numbers.{reason_of}
use Rattle.answers.specs.DirectNumbers.{direct_number, direct_place, direct_reason}
use Rattle.answers.specs.declared.direct.Direct.{Direct}
use Rattle.answers.specs.declared.direct.Direct.TheVariants.{Done, Limit, BadTerm, BadStore, BadPattern, WrongKind, WrittenWhileSet, ReadWhileUnset, Stuck, NoRoom}
use Rattle.terms.specs.Table.{ValidTable}
use Rattle.terms.proofs.TableLaws.{bad_term_at, valid_table}
use Rattle.stores.specs.Valid.{declared}
use Rattle.patterns.proofs.RuleLaws.{bad_pattern_at, bad_pattern_none}
use Rattle.patterns.proofs.RightRow.{wrong_kind_at}
use Rattle.theory.specs.Outcome.{stuck}
use Rattle.calls.specs.Compile.{lengths_fit}
use Rattle.calls.specs.Run.{Lent}
use Rattle.calls.specs.Direct.{ruled, direct}
use Rattle.calls.specs.CompileThenRun.{lent_to_run}
use Rattle.calls.proofs.CompileLaws.{compile_within}
use Rattle.calls.proofs.StraightLaws.{straight}
use Rattle.promises.specs.Conditions.{CompileWithin, LentWithin, ValidStores, BadVariable}
use Rattle.promises.specs.Straight.{DirectAnswers, Compilable, StraightTable, Straight}
use Rattle.promises.proofs.StepLaws.{reason_back}
use Rattle.promises.proofs.ConditionLaws.{bad_variable, no_bad_variable}
use Rattle.promises.proofs.NumberLaws.{checked}
use Rattle.promises.proofs.StraightLaws.{Tried, DirectGives, direct_of, rule_reasoned, direct_as_given, direct_given, gives_direct, direct_answered, direct_stuck, compilable, lengths_within, stores_good, asked}
use Rattle.promises.proofs.StraightDecision.{done_place, no_direct_reason, never_eight, never_nine, direct_valid_again, direct_match, direct_creation}

-- the numbers that come back
direct_range : (answer : Direct) → (direct_number answer ≤ 7) ⊎ (direct_number answer ≡ 10) ⊎ (direct_number answer ≡ 11)
direct_range Done = inl (omega arith)
direct_range Limit = inl (omega arith)
direct_range (BadTerm row) = inl (omega arith)
direct_range BadStore = inl (omega arith)
direct_range (BadPattern row) = inl (omega arith)
direct_range (WrongKind row) = inl (omega arith)
direct_range (WrittenWhileSet row) = inl (omega arith)
direct_range (ReadWhileUnset row) = inl (omega arith)
direct_range (Stuck row reason) = inr (inl refl)
direct_range (NoRoom row) = inr (inr refl)

module _ (creates : Bool) (pattern : List ℕ) (x : Lent) where
  comes : (answer : Direct) → DirectGives creates pattern x answer
      → DirectAnswers (direct creates pattern x) (direct_number answer) (direct_place answer) (direct_reason answer)
  comes answer g = let e = gives_direct creates pattern x answer g in (ap direct_number e, ap direct_place e, ap direct_reason e)

  told : {number place reason : ℕ} → DirectAnswers (direct creates pattern x) number place reason → DirectGives creates pattern x (direct_of number place reason)
  told = direct_answered creates pattern x

  abbrev Within : Type 0
  Within = CompileWithin pattern x.kinds x.objects x.messages

  within : T (lengths_fit creates pattern x.kinds x.objects x.messages) ↔ Within
  within = compile_within creates pattern x.kinds x.objects x.messages

  no_bad : Within → T (declared x.kinds x.objects) ↔ (BadVariable x.kinds x.objects → ⊥)
  no_bad w = no_bad_variable x.kinds x.objects w.kinds_length w.objects_length

  has_bad : Within → (T (declared x.kinds x.objects) → ⊥) ↔ BadVariable x.kinds x.objects
  has_bad w = bad_variable x.kinds x.objects w.kinds_length w.objects_length

  limit_iff : DirectGives creates pattern x Limit ↔ ((Within → ⊥) ⊎ (Compilable creates pattern x × (LentWithin (lent_to_run x) → ⊥)))
  limit_iff = (
    elim [ inl n ↦ inl (λ w. n (within.1 w)) | inr h ↦ inr ((compilable creates pattern x).0 h.0, λ w. h.1 ((lengths_within creates pattern x h.0).1 w)) ],
    elim [
      | inl n ↦ inl (λ t. n (within.0 t))
      | inr h ↦ let a = (compilable creates pattern x).1 h.0 in inr (a, λ t. h.1 ((lengths_within creates pattern x a).0 t))
    ],
  )

  store_iff : DirectGives creates pattern x BadStore
      ↔ ((Within × BadVariable x.kinds x.objects)
      ⊎ (Compilable creates pattern x × LentWithin (lent_to_run x) × ValidTable x.terms x.counter × (ValidStores (lent_to_run x) → ⊥)))
  store_iff =
      let table = valid_table x.terms x.counter in
      let good = stores_good creates pattern x in (
        elim [
          | inl h ↦ let w = within.0 h.0 in inl (w, (has_bad w).0 h.1)
          | inr h ↦ inr ((compilable creates pattern x).0 h.0, (lengths_within creates pattern x h.0).0 h.1, table.0 h.2, λ v. h.3 (good.1 v))
        ],
        elim [
          | inl h ↦ inl (within.1 h.0, (has_bad h.0).1 h.1)
          | inr h ↦ let a = (compilable creates pattern x).1 h.0 in inr (a, (lengths_within creates pattern x a).1 h.1, table.1 h.2, λ t. h.3 (good.0 t))
        ],
      )

  stuck_so : (row reason : ℕ) → Tried creates pattern x → ruled creates pattern x creates ≡ stuck row reason → DirectAnswers (direct creates pattern x) 10 row reason
  stuck_so row reason t e =
      let same = reason_back reason (rule_reasoned creates pattern x t.accepts e) in
      let (number, place, why) = comes (Stuck row (reason_of reason)) (t, e ∙ ap (stuck row) (sym same)) in
      (number, place, why ∙ same)

  pub straight_table : StraightTable creates pattern x
  straight_table =
      let ready = asked creates pattern x in
      let compiles = compilable creates pattern x in
      let all = checked creates pattern x.kinds x.objects x.messages [] in
      let terms = bad_term_at x.terms x.counter in
      record {
        limit = (λ a. limit_iff.0 (told a), λ h. comes Limit (limit_iff.1 h));
        bad_term_lem = λ row. (
          λ a. let (c, t, e) = told a in (compiles.0 c, (lengths_within creates pattern x c).0 t, (terms row).0 e),
          λ h. let c = compiles.1 h.0 in comes (BadTerm row) (c, (lengths_within creates pattern x c).1 h.1, (terms row).1 h.2),
        );
        bad_store = (λ a. store_iff.0 (told a), λ h. comes BadStore (store_iff.1 h));
        bad_pattern = λ row. (
          λ a. let (t, d, e) = told a in let w = within.0 t in (w, (no_bad w).0 d, (bad_pattern_at pattern row).0 e),
          λ h. comes (BadPattern row) (within.1 h.0, (no_bad h.0).1 h.1, (bad_pattern_at pattern row).1 h.2),
        );
        wrong_kind = λ row. (
          λ a.
              let (t, d, e, k) = told a in
              let w = within.0 t in
              (w, (no_bad w).0 d, (bad_pattern_none pattern).0 e, (wrong_kind_at creates (kind_in x.kinds) pattern e row).0 k),
          λ h.
              let e = (bad_pattern_none pattern).1 h.2 in
              comes (WrongKind row) (within.1 h.0, (no_bad h.0).1 h.1, e, (wrong_kind_at creates (kind_in x.kinds) pattern e row).1 h.3),
        );
        written_while_set = λ row. (λ a. let (c, e) = told a in (all.0 c, e), λ h. comes (WrittenWhileSet row) (all.1 h.0, h.1));
        read_while_unset = λ row. (λ a. let (c, e) = told a in (all.0 c, e), λ h. comes (ReadWhileUnset row) (all.1 h.0, h.1));
        sticks = λ row reason. (λ a. let (t, e) = direct_stuck creates pattern x a in (ready.0 t, e), λ h. stuck_so row reason (ready.1 h.0) h.1);
        reasoned = λ q e. rule_reasoned creates pattern x (ready.1 q).accepts e;
        no_room = λ row. (λ a. let (t, e) = told a in (ready.0 t, e), λ h. comes (NoRoom row) (ready.1 h.0, h.1));
        finishes = (λ a. let (t, e) = told a in (ready.0 t, e), λ h. comes Done (ready.1 h.0, h.1));
        given = λ r q e. direct_given creates pattern x r e (comes Done (ready.1 q, (r, e))).0;
        left = direct_as_given creates pattern x;
        range = direct_range (direct creates pattern x).answer;
        no_place = done_place (direct creates pattern x).answer;
        no_reason = no_direct_reason (direct creates pattern x).answer;
        valid_again = direct_valid_again creates pattern x;
      }

pub straight_page : Straight
straight_page = record {
  equal = straight;
  fits = never_eight;
  good = never_nine;
  table = straight_table;
  matching = direct_match;
  creating = direct_creation;
}
