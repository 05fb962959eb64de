-- What the engine comes to, answer by answer: compile's looks in their order, run's, then the rules.
use Prim.Native.Nat.{ℕ}
use mathlib.Core.Path.{◌≡◌, refl, sym, ◌∙◌, ap, subst}
use mathlib.Core.Logic.{◌↔◌, ◌≢◌, ◌⊎◌, inl, inr}
use mathlib.Core.Bool.{Bool, true, false, not}
use Rattle.std.specs.Prelude.{Option, None, Some}
use Rattle.std.specs.Option.{option_map}
use mathlib.Core.List.{List, [], ◌∷◌}
use native.Mathlib.Omega.{arith}
use lib.Dec.{T}
use lib.ListN.{length, get_or}
use Rattle.numbers.specs.Kinds.{kind_in}
use Rattle.answers.specs.First.{when, first}
use Rattle.answers.specs.Numbers.{reason_number, reason_of}
use Rattle.answers.specs.DirectNumbers.{direct_number, direct_place, direct_reason}
use Rattle.answers.specs.declared.Compiled.{Compiled}
use Rattle.answers.specs.declared.Compiled.TheVariants as Compiled
use Rattle.answers.specs.declared.direct.Direct.{Direct}
use Rattle.answers.specs.declared.direct.Direct.TheVariants.{Done, Limit, BadTerm, BadStore, BadPattern, WrongKind, WrittenWhileSet, ReadWhileUnset, Stuck, NoRoom}
use Rattle.answers.proofs.NumberLaws.{reason_known}
use Rattle.terms.specs.Rules.{bad_term}
use Rattle.terms.proofs.TableLaws.{valid_table}
use Rattle.stores.specs.Valid.{declared}
use Rattle.patterns.specs.Rules.{bad_pattern}
use Rattle.patterns.specs.Kinds.{wrong_kind}
use Rattle.theory.specs.Outcome.{Outcome, done, stuck, room, bind}
use Rattle.theory.specs.RowModel.{row_world}
use Rattle.theory.specs.Machine.{Line, Stores}
use Rattle.theory.specs.Emission.{Env, Emitted, ok, refuse}
use Rattle.theory.proofs.InLimits.{Refusal, written, read}
use Rattle.theory.proofs.Models.{calm_rows}
use Rattle.theory.proofs.Places.{form}
use Rattle.calls.specs.Compile.{lengths_fit, emitted}
use Rattle.calls.specs.Run.{Lent, state_of}
use Rattle.calls.specs.Direct.{DirectOutcome, as_given, refused_as, refused_by, direct_ends, table_fits, store_refusals, ruled, direct_by, direct}
use Rattle.calls.specs.CompileThenRun.{lent_to_run}
use Rattle.calls.proofs.CompileLaws.{passes_when, fails_when, Checked, compile_within}
use Rattle.calls.proofs.Product.{checked_refuses}
use Rattle.calls.proofs.RunLaws.{stores_fit, run_within, stores_valid}
use Rattle.calls.proofs.StraightLaws.{scratch_fits, lengths_same, rules_run}
use Rattle.promises.specs.Conditions.{LentWithin, ValidStores}
use Rattle.promises.specs.Straight.{DirectAnswers, Compilable, Asked}
use Rattle.promises.proofs.NumberLaws.{checked}
use Rattle.promises.proofs.StepLaws.{Reasoned, exec_reasoned, reason_back}

-- where something finished is only looked at, being stuck comes from before
stuck_before : {A B : Type 0} (o : Outcome A) (f : A → B) {place why : ℕ} → bind o (λ a. done (f a)) ≡ stuck place why → o ≡ stuck place why
stuck_before (done a) f e = absurd (omega (arith, ap form e))
stuck_before (stuck other because) f {place} {why} e =
    let here : other ≡ place = cc in
    let same : because ≡ why = cc in
    λ i. stuck (here i) (same i)
stuck_before (room other) f e = absurd (omega (arith, ap form e))

module _ (creates : Bool) (pattern : List ℕ) (x : Lent) where
  abbrev fit : Bool
  fit = lengths_fit creates pattern x.kinds x.objects x.messages

  abbrev declares : Bool
  declares = declared x.kinds x.objects

  abbrev wrong : Option ℕ
  wrong = wrong_kind creates (kind_in x.kinds) pattern

  abbrev emits : Emitted
  emits = emitted creates pattern x.kinds x.objects x.messages

  abbrev bad : Option ℕ
  bad = bad_term x.terms x.counter

  abbrev rule : Outcome (ℕ × Stores row_world)
  rule = ruled creates pattern x creates

  -- compile's looks pass
  pub record Accepts : Type 0 where
    pub checks : Checked creates pattern x.kinds x.objects x.messages
    pub lines : List Line
    pub env : Env
    pub emitting : emits ≡ ok lines env

  -- and run's
  pub record Tried : Type 0 where
    pub accepts : Accepts
    pub lengths : T (table_fits x)
    pub rows : bad ≡ None
    pub stores : T (stores_fit x)

  -- what each answer says
  abbrev pub DirectGives : Direct → Type 0
  DirectGives Limit = (T fit → ⊥) ⊎ (Accepts × (T (table_fits x) → ⊥))
  DirectGives (BadTerm row) = Accepts × T (table_fits x) × (bad ≡ Some row)
  DirectGives BadStore = (T fit × (T declares → ⊥)) ⊎ (Accepts × T (table_fits x) × (bad ≡ None) × (T (stores_fit x) → ⊥))
  DirectGives (BadPattern row) = T fit × T declares × (bad_pattern pattern ≡ Some row)
  DirectGives (WrongKind row) = T fit × T declares × (bad_pattern pattern ≡ None) × (wrong ≡ Some row)
  DirectGives (WrittenWhileSet row) = Checked creates pattern x.kinds x.objects x.messages × (emits ≡ refuse (Compiled.WrittenWhileSet row))
  DirectGives (ReadWhileUnset row) = Checked creates pattern x.kinds x.objects x.messages × (emits ≡ refuse (Compiled.ReadWhileUnset row))
  DirectGives (Stuck row reason) = Tried × (rule ≡ stuck row (reason_number reason))
  DirectGives (NoRoom row) = Tried × (rule ≡ room row)
  DirectGives Done = Tried × ((r : ℕ × Stores row_world) × (rule ≡ done r))

  -- and what it leaves
  abbrev DirectLeaves : DirectOutcome → Type 0
  DirectLeaves o = DirectGives o.answer × ((direct_number o.answer ≢ 0 → o ≡ as_given o.answer x) ×
      ((r : ℕ × Stores row_world) → rule ≡ done r → direct_number o.answer ≡ 0 → o ≡ direct_ends x (done r)))

  refused : (answer : Direct) → direct_number answer ≢ 0 → DirectGives answer → DirectLeaves (as_given answer x)
  refused answer nonzero gives = (gives, (λ _. refl, λ r e z. absurd (nonzero z)))

  -- the rules are stuck for one of document 01's reasons: so is the code that they end as
  pub rule_reasoned : Accepts → {row why : ℕ} → rule ≡ stuck row why → Reasoned why
  rule_reasoned a e =
      exec_reasoned calm_rows (kind_in x.kinds) a.lines (state_of (lent_to_run x))
      (stuck_before _ _ (rules_run creates pattern x a.checks a.lines a.env a.emitting ∙ e))

  by_rules : Tried → (o : Outcome (ℕ × Stores row_world)) → rule ≡ o → DirectLeaves (direct_ends x o)
  by_rules t (done r) e = ((t, (r, e)), (λ n. absurd (n refl), λ u q z. let same : r ≡ u = cc in ap (λ r. direct_ends x (done r)) same))
  by_rules t (stuck row why) e =
      refused (Stuck row (reason_of why)) (λ z. omega arith) (t, e ∙ ap (stuck row) (sym (reason_back why (rule_reasoned t.accepts e))))
  by_rules t (room row) e = refused (NoRoom row) (λ z. omega arith) (t, e)

  -- one look after another: run's
  by_stores : Accepts → (f g : Bool) (terms : Option ℕ) → table_fits x ≡ f → bad ≡ terms → stores_fit x ≡ g
      → DirectLeaves (direct_by creates pattern x (first (when (not f) Limit ∷ option_map BadTerm terms ∷ when (not g) BadStore ∷ [])))
  unfolding first
  by_stores a false g terms e h s = refused Limit (λ z. omega arith) (inr (a, rw e λ n. n))
  by_stores a true g (Some row) e h s = refused (BadTerm row) (λ z. omega arith) (a, rw e tt, h)
  by_stores a true false None e h s = refused BadStore (λ z. omega arith) (inr (a, rw e tt, h, rw s λ n. n))
  by_stores a true true None e h s = by_rules (record { accepts = a; lengths = rw e tt; rows = h; stores = rw s tt }) rule refl

  by_refusal : (answer : Compiled) → Checked creates pattern x.kinds x.objects x.messages → Refusal answer → emits ≡ refuse answer
      → DirectLeaves (as_given (refused_as answer) x)
  by_refusal answer c (written {row = row}) q = refused (WrittenWhileSet row) (λ z. omega arith) (c, q)
  by_refusal answer c (read {row = row}) q = refused (ReadWhileUnset row) (λ z. omega arith) (c, q)

  by_emission : Checked creates pattern x.kinds x.objects x.messages → (E : Emitted) → emits ≡ E
      → DirectLeaves (direct_by creates pattern x (first (option_map refused_as (first (refused_by E ∷ [])) ∷ store_refusals x)))
  unfolding first
  by_emission c (ok lines env) q =
      by_stores (record { checks = c; lines = lines; env = env; emitting = q }) (table_fits x) (stores_fit x) bad refl refl refl
  by_emission c (refuse answer) q =
      by_refusal answer c
      (checked_refuses creates pattern x.kinds x.objects x.messages
      ((compile_within creates pattern x.kinds x.objects x.messages).0 c.lengths).kinds_length c answer q) q

  -- and compile's before them
  by_looks : (a b : Bool) (rows right : Option ℕ) → fit ≡ a → declares ≡ b → bad_pattern pattern ≡ rows → wrong ≡ right
      → DirectLeaves (direct_by creates pattern x
      (first (option_map refused_as
      (first (when (not a) Compiled.Limit ∷ when (not b) Compiled.BadStore ∷ option_map Compiled.BadPattern rows ∷ option_map Compiled.WrongKind right ∷ refused_by emits ∷ []))
      ∷ store_refusals x)))
  unfolding first
  by_looks false b rows right e f g h = refused Limit (λ z. omega arith) (inl (rw e λ n. n))
  by_looks true false rows right e f g h = refused BadStore (λ z. omega arith) (inl (rw e tt, rw f λ n. n))
  by_looks true true (Some row) right e f g h = refused (BadPattern row) (λ z. omega arith) (rw e tt, rw f tt, g)
  by_looks true true None (Some row) e f g h = refused (WrongKind row) (λ z. omega arith) (rw e tt, rw f tt, g, h)
  by_looks true true None None e f g h = by_emission (record { lengths = rw e tt; cells = rw f tt; rows = g; right = h }) emits refl

  abbrev outcome : DirectOutcome
  outcome = direct creates pattern x

  direct_leaves : DirectLeaves outcome
  unfolding direct
  direct_leaves = by_looks fit declares (bad_pattern pattern) wrong refl refl refl refl

  pub direct_as_given : direct_number outcome.answer ≢ 0 → outcome ≡ as_given outcome.answer x
  direct_as_given = direct_leaves.1.0

  pub direct_given : (r : ℕ × Stores row_world) → rule ≡ done r → direct_number outcome.answer ≡ 0 → outcome ≡ direct_ends x (done r)
  direct_given = direct_leaves.1.1

  -- what is said is answered
  emission_asked : Checked creates pattern x.kinds x.objects x.messages
      → outcome ≡ direct_by creates pattern x (first (option_map refused_as (first (refused_by emits ∷ [])) ∷ store_refusals x))
  unfolding direct first
  emission_asked c = rw (passes_when fit Compiled.Limit c.lengths, passes_when declares Compiled.BadStore c.cells, c.rows, c.right)

  stores_asked : Accepts → outcome ≡ direct_by creates pattern x (first (store_refusals x))
  unfolding first
  stores_asked a = emission_asked a.checks ∙ rw a.emitting

  rule_asked : Tried → outcome ≡ direct_ends x rule
  unfolding first
  rule_asked t =
      stores_asked t.accepts
      ∙ rw (passes_when (table_fits x) Limit t.lengths, t.rows, passes_when (stores_fit x) BadStore t.stores)

  pub gives_direct : (answer : Direct) → DirectGives answer → outcome.answer ≡ answer
  unfolding direct first
  gives_direct Limit (inl n) = rw (fails_when fit Compiled.Limit n)
  gives_direct Limit (inr (a, n)) = ap (λ o. o.answer) (stores_asked a) ∙ rw (fails_when (table_fits x) Limit n)
  gives_direct (BadTerm row) (a, f, q) = ap (λ o. o.answer) (stores_asked a) ∙ rw (passes_when (table_fits x) Limit f, q)
  gives_direct BadStore (inl (f, n)) = rw (passes_when fit Compiled.Limit f, fails_when declares Compiled.BadStore n)
  gives_direct BadStore (inr (a, f, q, n)) =
      ap (λ o. o.answer) (stores_asked a) ∙ rw (passes_when (table_fits x) Limit f, q, fails_when (stores_fit x) BadStore n)
  gives_direct (BadPattern row) (f, d, q) = rw (passes_when fit Compiled.Limit f, passes_when declares Compiled.BadStore d, q)
  gives_direct (WrongKind row) (f, d, p, q) = rw (passes_when fit Compiled.Limit f, passes_when declares Compiled.BadStore d, p, q)
  gives_direct (WrittenWhileSet row) (c, q) = ap (λ o. o.answer) (emission_asked c) ∙ rw q
  gives_direct (ReadWhileUnset row) (c, q) = ap (λ o. o.answer) (emission_asked c) ∙ rw q
  gives_direct (Stuck row reason) (t, q) = ap (λ o. o.answer) (rule_asked t) ∙ rw q (ap (Stuck row) (reason_known reason))
  gives_direct (NoRoom row) (t, q) = ap (λ o. o.answer) (rule_asked t) ∙ rw q
  gives_direct Done (t, (r, q)) = ap (λ o. o.answer) (rule_asked t) ∙ rw q

-- the answer of a number, a place and a reason
abbrev pub direct_of : ℕ → ℕ → ℕ → Direct
direct_of number place reason =
    get_or
    (Done ∷ Limit ∷ BadTerm place ∷ BadStore ∷ BadPattern place ∷ WrongKind place ∷ WrittenWhileSet place ∷ ReadWhileUnset place ∷ Limit ∷ Limit ∷ Stuck place (reason_of reason)
    ∷ NoRoom place ∷ [])
    number Limit

direct_back : (answer : Direct) → direct_of (direct_number answer) (direct_place answer) (direct_reason answer) ≡ answer
direct_back Done = refl
direct_back Limit = refl
direct_back (BadTerm row) = refl
direct_back BadStore = refl
direct_back (BadPattern row) = refl
direct_back (WrongKind row) = refl
direct_back (WrittenWhileSet row) = refl
direct_back (ReadWhileUnset row) = refl
direct_back (Stuck row reason) = ap (Stuck row) (reason_known reason)
direct_back (NoRoom row) = refl

module _ (creates : Bool) (pattern : List ℕ) (x : Lent) where
  answer_is : {number place reason : ℕ} → DirectAnswers (direct creates pattern x) number place reason → (direct creates pattern x).answer ≡ direct_of number place reason
  answer_is a = sym (direct_back (direct creates pattern x).answer) ∙ λ i. direct_of (a.0 i) (a.1 i) (a.2 i)

  -- the answer says it
  pub direct_answered : {number place reason : ℕ} → DirectAnswers (direct creates pattern x) number place reason → DirectGives creates pattern x (direct_of number place reason)
  direct_answered a = subst (DirectGives creates pattern x) (answer_is a) (direct_leaves creates pattern x).0

  pub direct_stuck : {row reason : ℕ} → DirectAnswers (direct creates pattern x) 10 row reason → Tried creates pattern x × (rule creates pattern x ≡ stuck row reason)
  direct_stuck {row} {reason} a =
      let (t, e) = direct_answered a in
      let same : reason_number (reason_of reason) ≡ reason = sym (ap direct_reason (answer_is a)) ∙ a.2 in
      (t, e ∙ ap (stuck row) same)

-- the looks and the conditions say the same
module _ (creates : Bool) (pattern : List ℕ) (x : Lent) where
  pub compilable : Accepts creates pattern x ↔ Compilable creates pattern x
  compilable =
      let all = checked creates pattern x.kinds x.objects x.messages [] in (
        λ a. record { checked = all.0 a.checks; words = length a.lines; emits = record { lines = a.lines; env = a.env; emits = a.emitting; count = refl } },
        λ c. record { checks = all.1 c.checked; lines = c.emits.lines; env = c.emits.env; emitting = c.emits.emits },
      )

  pub lengths_within : Accepts creates pattern x → T (table_fits x) ↔ LentWithin (lent_to_run x)
  lengths_within a =
      let same = lengths_same creates pattern x a.checks [] (omega arith) in (
        λ t. ((run_within (lent_to_run x) []).0 (subst T (sym same) t)).0,
        λ w. subst T same ((run_within (lent_to_run x) []).1 (w, omega arith)),
      )

  pub stores_good : T (stores_fit x) ↔ ValidStores (lent_to_run x)
  stores_good = (
    λ t. (stores_valid (lent_to_run x)).0 (subst T (sym (scratch_fits x)) t),
    λ v. subst T (scratch_fits x) ((stores_valid (lent_to_run x)).1 v),
  )

  pub asked : Tried creates pattern x ↔ Asked creates pattern x
  asked =
      let table = valid_table x.terms x.counter in (
        λ t. record {
          compilable = compilable.0 t.accepts;
          valid = record { within = (lengths_within t.accepts).0 t.lengths; table = table.0 t.rows; stores = stores_good.0 t.stores };
        },
        λ q.
            let a = compilable.1 q.compilable in
            let v = q.valid in
            record { accepts = a; lengths = (lengths_within a).1 v.within; rows = table.1 v.table; stores = stores_good.1 v.stores },
      )
