-- What a role comes to, answer by answer: the call's own 1, then half after half, then the room in the slice.
use Prim.Native.Nat.{ℕ, zero, suc, ◌+◌, ◌<◌, ◌≤◌}
use mathlib.Core.Path.{◌≡◌, refl, sym, ◌∙◌, ap, subst}
use mathlib.Core.Logic.{◌≢◌, ◌⊎◌, inl, inr}
use mathlib.Core.Bool.{Bool, true, false, cond, not}
use mathlib.Core.List.{List, ◌++◌}
use native.Mathlib.Omega.{arith}
use borrow.Author.Tests.{le-leb, lt-leb}
use lib.Dec.{T, leb, leb→le, nleb→lt}
use lib.ListN.{length, drop}
use Rattle.word.proofs.TestLaws.{is_true, is_false}
use Rattle.answers.specs.Numbers.{compiled_number, compiled_place}
use Rattle.answers.specs.declared.Compiled.{Compiled}
use Rattle.answers.specs.declared.Compiled.TheVariants.{Done, Limit, BadStore, BadPattern, WrongKind, WrittenWhileSet, ReadWhileUnset, CodeTooShort}
use Rattle.stores.specs.Valid.{declared}
use Rattle.theory.specs.Emission.{Env, refuse}
use Rattle.calls.specs.Half.{half}
use Rattle.calls.specs.Role.{RoleLent, RoleOutcome, rounds_of, in_turn, ends_from, role_refused, role_written, role_by, role_fits, halves_of, role}
use Rattle.promises.specs.Conditions.{BadVariable, BadPatternAt, GoodPattern, WrongKindAt}
use Rattle.promises.specs.Roles.{RoleAnswers, RoleWithin, rows_of_half, creates_half, FewRows, HalfChecked, half_emission, Reached, start, next, HalfTurn, WholeRole, RoleTable}
use Rattle.promises.proofs.ConditionLaws.{bad_variable}
use Rattle.promises.proofs.CompileLaws.{compiled_of, compiled_back}
use Rattle.promises.proofs.NumberLaws.{compiled_range}
use Rattle.promises.proofs.HalfTable.{HalfRefuses}
use Rattle.promises.proofs.TurnLaws.{role_within, Refusing, refused_at, whole, far}

module _ (ends slice : List ℕ) (x : RoleLent) where
  -- what each answer says, with its half
  abbrev RoleGives : Compiled → ℕ → Type 0
  RoleGives Limit zero = (RoleWithin ends x → ⊥) ⊎ (HalfTurn ends x 0 × (FewRows x 0 → ⊥))
  RoleGives Limit (suc n) = HalfTurn ends x (suc n) × (FewRows x (suc n) → ⊥)
  RoleGives BadStore n = (n ≡ 0) × HalfTurn ends x 0 × FewRows x 0 × BadVariable x.kinds x.objects
  RoleGives (BadPattern row) n = HalfTurn ends x n × FewRows x n × (BadVariable x.kinds x.objects → ⊥) × BadPatternAt (rows_of_half x n) row
  RoleGives (WrongKind row) n =
      HalfTurn ends x n × FewRows x n × (BadVariable x.kinds x.objects → ⊥) × GoodPattern (rows_of_half x n)
      × WrongKindAt (creates_half n) x.kinds (rows_of_half x n) row
  RoleGives (WrittenWhileSet row) n = (turn : HalfTurn ends x n) × HalfChecked x n × (half_emission x n turn.set ≡ refuse (WrittenWhileSet row))
  RoleGives (ReadWhileUnset row) n = (turn : HalfTurn ends x n) × HalfChecked x n × (half_emission x n turn.set ≡ refuse (ReadWhileUnset row))
  RoleGives (CodeTooShort words) n = (n ≡ 0) × WholeRole ends x words × (length slice < words)
  RoleGives (Done words) n = (n ≡ 0) × WholeRole ends x words × (words ≤ length slice)

  -- 3 is of half 0: the halves before a later one are compiled for declared cells
  bad_variable_first : (n : ℕ) (turn : HalfTurn ends x n) → HalfRefuses x n turn.set BadStore → RoleGives BadStore n
  bad_variable_first n turn h = go turn.reached turn h
    where
      go : {n words : ℕ} {set : Env} → Reached x n set words → HalfTurn ends x n → FewRows x n × ((BadVariable x.kinds x.objects → ⊥) → ⊥) → RoleGives BadStore n
      go start turn h =
          let bad = bad_variable x.kinds x.objects turn.within.kinds turn.within.objects in
          (refl, turn, h.0, bad.0 λ t. h.1 λ b. bad.1 b t)
      go (next r c e) turn h = absurd (h.1 c.declared)

  half_gives : (answer : Compiled) (n : ℕ) (turn : HalfTurn ends x n) → HalfRefuses x n turn.set answer → RoleGives answer n
  half_gives Limit zero turn h = inr (turn, h)
  half_gives Limit (suc n) turn h = (turn, h)
  half_gives BadStore n turn h = bad_variable_first n turn h
  half_gives (BadPattern row) n turn h = (turn, h.0, h.1, h.2)
  half_gives (WrongKind row) n turn h = (turn, h.0, h.1, h.2, h.3)
  half_gives (WrittenWhileSet row) n turn h = (turn, h.0, h.1)
  half_gives (ReadWhileUnset row) n turn h = (turn, h.0, h.1)
  half_gives (CodeTooShort words) n turn h = absurd h
  half_gives (Done words) n turn h = absurd h

  -- and what it leaves
  abbrev RoleLeaves : RoleOutcome → Type 0
  RoleLeaves o = RoleGives o.answer o.half × (compiled_number o.answer ≢ 0 → (o.ends ≡ ends) × (o.code ≡ slice))

  by_room : (rounds : List (List ℕ)) → WholeRole ends x (length (in_turn rounds)) → RoleLeaves (role_written ends slice rounds)
  by_room rounds all = go (leb (length words) (length slice)) (leb→le (length words) (length slice)) (nleb→lt (length words) (length slice))
    where
      words : List ℕ
      words = in_turn rounds

      go : (b : Bool) → (T b → length words ≤ length slice) → (T (not b) → length slice < length words)
          → RoleLeaves
          (cond b
          (record { answer = Done (length words); half = 0; ends = ends_from 0 rounds; code = words ++ drop (length words) slice })
          (role_refused ends slice 0 (CodeTooShort (length words))))
      go true long short = ((refl, all, long tt), λ n. absurd (n refl))
      go false long short = ((refl, all, short tt), λ _. (refl, refl))

  role_leaves : RoleLeaves (role ends slice x)
  unfolding role
  role_leaves = by_fit (role_fits ends slice x) refl
    where
      by_far : (w : RoleWithin ends x) → ((set : Env) × (words : ℕ) × Reached x (length x.counts) set words) ⊎ Refusing ends slice x w
          → RoleLeaves (role_by ends slice (halves_of ends slice x))
      by_far w (inl all) =
          let W = whole ends slice x w all.2 in
          subst (λ H. RoleLeaves (role_by ends slice H)) (sym W.is)
          (by_room (rounds_of W.halves) (record { within = w; set = all.0; halves = all.1; reached = all.2; count = omega (arith, W.count) }))
      by_far w (inr R) =
          let is = refused_at ends slice x w R.turn.reached R.answer R.refuses R.turn.inside in
          subst (λ H. RoleLeaves (role_by ends slice H)) (sym is) (half_gives R.answer R.n R.turn R.refuses, λ _. (refl, refl))

      by_fit : (fits : Bool) → role_fits ends slice x ≡ fits → RoleLeaves (cond fits (role_by ends slice (halves_of ends slice x)) (role_refused ends slice 0 Limit))
      by_fit true e = let w = (role_within ends slice x).0 (rw e tt) in by_far w (far ends slice x w (length x.counts) (omega arith))
      by_fit false e = (inl (λ w. rw e at ((role_within ends slice x).1 w)), λ _. (refl, refl))

  -- and what is said is answered
  fitting_role : RoleWithin ends x → role ends slice x ≡ role_by ends slice (halves_of ends slice x)
  unfolding role
  fitting_role w = ap (λ fits. cond fits (role_by ends slice (halves_of ends slice x)) (role_refused ends slice 0 Limit)) (is_true (role_fits ends slice x) ((role_within ends slice x).1 w))

  no_role : (RoleWithin ends x → ⊥) → role ends slice x ≡ role_refused ends slice 0 Limit
  unfolding role
  no_role n = ap (λ fits. cond fits (role_by ends slice (halves_of ends slice x)) (role_refused ends slice 0 Limit)) (is_false (role_fits ends slice x) λ t. n ((role_within ends slice x).0 t))

  told : {o : RoleOutcome} → role ends slice x ≡ o → RoleAnswers (role ends slice x) (compiled_number o.answer) (compiled_place o.answer) o.half
  told e = (ap (λ o. compiled_number o.answer) e, ap (λ o. compiled_place o.answer) e, ap (λ o. o.half) e)

  refuses : (n : ℕ) (turn : HalfTurn ends x n) (answer : Compiled) → HalfRefuses x n turn.set answer
      → RoleAnswers (role ends slice x) (compiled_number answer) (compiled_place answer) n
  refuses n turn answer h =
      let w = turn.within in
      told (fitting_role w ∙ ap (role_by ends slice) (refused_at ends slice x w turn.reached answer h turn.inside))

  whole_role : (words : ℕ) → WholeRole ends x words → (rounds : List (List ℕ)) × (length (in_turn rounds) ≡ words) × (role ends slice x ≡ role_written ends slice rounds)
  whole_role words all =
      let W = whole ends slice x all.within all.reached in
      (rounds_of W.halves, omega (arith, W.count, all.count), fitting_role all.within ∙ ap (role_by ends slice) W.is)

  short_role : (words : ℕ) → WholeRole ends x words → length slice < words → RoleAnswers (role ends slice x) 8 words 0
  short_role words all short =
      let (rounds, same, is) = whole_role words all in
      rw (is, lt-leb (length (in_turn rounds)) (length slice) (omega (arith, same))) (refl, same, refl)

  done_role : (words : ℕ) → WholeRole ends x words → words ≤ length slice → RoleAnswers (role ends slice x) 0 words 0
  done_role words all long =
      let (rounds, same, is) = whole_role words all in
      rw (is, le-leb (length (in_turn rounds)) (length slice) (omega (arith, same))) (refl, same, refl)

  -- the answer of a number and a place, and what it means
  means : {number place half : ℕ} → RoleAnswers (role ends slice x) number place half → RoleGives (compiled_of number place) half
  means {number} {place} {half} a =
      let is = sym (compiled_back (role ends slice x).answer) ∙ λ i. compiled_of (a.0 i) (a.1 i) in
      subst (λ n. RoleGives (compiled_of number place) n) a.2 (subst (λ answer. RoleGives answer (role ends slice x).half) is role_leaves.0)

  no_half : (compiled_number (role ends slice x).answer ≡ 0) ⊎ (compiled_number (role ends slice x).answer ≡ 3) ⊎ (compiled_number (role ends slice x).answer ≡ 8)
      → (role ends slice x).half ≡ 0
  no_half (inl e) = (means (e, refl, refl)).0
  no_half (inr (inl e)) = (means (e, refl, refl)).0
  no_half (inr (inr e)) = (means (e, refl, refl)).0

  pub role_table : RoleTable ends slice x
  role_table = record {
    limit = (λ a. means a, elim [ inl n ↦ told (no_role n) | inr h ↦ refuses 0 h.0 Limit h.1 ]);
    half_limit = λ n. (λ a. means a, λ h. refuses (suc n) h.0 Limit h.1);
    bad_store = (λ a. let g = means a in (g.1, g.2, g.3), λ h. refuses 0 h.0 BadStore (h.1, λ n. n h.2));
    bad_pattern = λ row n. (λ a. means a, λ h. refuses n h.0 (BadPattern row) (h.1, h.2, h.3));
    wrong_kind = λ row n. (λ a. means a, λ h. refuses n h.0 (WrongKind row) (h.1, h.2, h.3, h.4));
    written_while_set = λ row n. (λ a. means a, λ h. refuses n h.0 (WrittenWhileSet row) (h.1, h.2));
    read_while_unset = λ row n. (λ a. means a, λ h. refuses n h.0 (ReadWhileUnset row) (h.1, h.2));
    too_short = λ words. (λ a. let g = means a in (g.1, g.2), λ h. short_role words h.0 h.1);
    done = λ words. (λ a. let g = means a in (g.1, g.2), λ h. done_role words h.0 h.1);
    no_half = no_half;
    left = role_leaves.1;
    range = compiled_range (role ends slice x).answer;
  }
