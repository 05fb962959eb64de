-- What a half answers at its turn, by the conditions: its checks in their order, then emission.
use Prim.Native.Nat.{ℕ}
use mathlib.Core.Path.{◌≡◌, refl, ◌∙◌}
use mathlib.Core.Logic.{◌↔◌}
use mathlib.Core.Bool.{Bool, true, false, not}
use Rattle.std.specs.Prelude.{Option, None, Some}
use Rattle.std.specs.Option.{option_map}
use mathlib.Core.List.{List, [], ◌∷◌}
use lib.Dec.{T}
use lib.ListN.{length}
use Rattle.word.proofs.TestLaws.{both, equals, at_most}
use Rattle.numbers.specs.Kinds.{kind_in}
use Rattle.numbers.specs.Limits.{variables}
use Rattle.answers.specs.First.{when, first}
use Rattle.answers.specs.declared.Compiled.{Compiled}
use Rattle.answers.specs.declared.Compiled.TheVariants.{Done, Limit, BadStore, BadPattern, WrongKind, WrittenWhileSet, ReadWhileUnset, CodeTooShort}
use Rattle.patterns.specs.Rules.{bad_pattern}
use Rattle.patterns.specs.Kinds.{wrong_kind}
use Rattle.patterns.proofs.RuleLaws.{bad_pattern_at, bad_pattern_none}
use Rattle.patterns.proofs.RightRow.{wrong_kind_at, wrong_kind_none}
use Rattle.theory.specs.Machine.{Line}
use Rattle.theory.specs.Emission.{Env, Emitted, ok, refuse}
use Rattle.theory.specs.Bounds.{InLimits}
use Rattle.theory.proofs.InLimits.{Refusal, written, read}
use Rattle.calls.specs.Half.{declared_known, known_fit, half_by, half}
use Rattle.calls.specs.Role.{RoleLent}
use Rattle.calls.proofs.CompileLaws.{passes_when, fails_when}
use Rattle.calls.proofs.Product.{Given, given, given_refuses, given_limits}
use Rattle.promises.specs.Conditions.{BadVariable, BadPatternAt, GoodPattern, WrongKindAt}
use Rattle.promises.specs.Roles.{rows_of_half, creates_half, FewRows, HalfChecked, half_emission}

module _ (x : RoleLent) (n : ℕ) where
  abbrev Declared : Type 0
  Declared = BadVariable x.kinds x.objects → ⊥

  module _ (set : Env) where
    -- what each answer of the half says
    abbrev pub HalfRefuses : Compiled → Type 0
    HalfRefuses Limit = FewRows x n → ⊥
    HalfRefuses BadStore = FewRows x n × (Declared → ⊥)
    HalfRefuses (BadPattern row) = FewRows x n × Declared × BadPatternAt (rows_of_half x n) row
    HalfRefuses (WrongKind row) = FewRows x n × Declared × GoodPattern (rows_of_half x n) × WrongKindAt (creates_half n) x.kinds (rows_of_half x n) row
    HalfRefuses (WrittenWhileSet row) = HalfChecked x n × (half_emission x n set ≡ refuse (WrittenWhileSet row))
    HalfRefuses (ReadWhileUnset row) = HalfChecked x n × (half_emission x n set ≡ refuse (ReadWhileUnset row))
    HalfRefuses (CodeTooShort words) = ⊥
    HalfRefuses (Done words) = ⊥

    abbrev pub HalfSays : Emitted → Type 0
    HalfSays (ok lines env) = HalfChecked x n × (half_emission x n set ≡ ok lines env)
    HalfSays (refuse answer) = HalfRefuses answer

module _ (x : RoleLent) (n : ℕ) (kinds_length : length x.kinds ≡ variables) where
  abbrev rows : List ℕ
  rows = rows_of_half x n

  abbrev create : Bool
  create = creates_half n

  few : T (known_fit (length rows) (length x.kinds)) ↔ FewRows x n
  few = simp (both, equals, at_most) (λ h. h.0, λ f. (f, kinds_length))

  -- what emission is given once the checks have passed
  checked_given : HalfChecked x n → Given create rows x.kinds kinds_length
  checked_given c =
      let good = (bad_pattern_none rows).1 c.rows in
      given create rows x.kinds kinds_length c.few.0 c.few.1 good ((wrong_kind_none create (kind_in x.kinds) rows good).1 c.right)

  pub checked_limits : (set : Env) → set.next ≡ 0 → HalfChecked x n → (lines : List Line) (env : Env) → half_emission x n set ≡ ok lines env → InLimits (kind_in x.kinds) lines env
  checked_limits set start c = given_limits create rows x.kinds kinds_length (checked_given c) set start

  module _ (set : Env) (start : set.next ≡ 0) (declared : T (declared_known x.kinds set.objects) ↔ Declared x n) where
    by_refusal : HalfChecked x n → (answer : Compiled) → half_emission x n set ≡ refuse answer → Refusal answer → HalfRefuses x n set answer
    by_refusal c answer q (written {row}) = (c, q)
    by_refusal c answer q (read {row}) = (c, q)

    by_emission : HalfChecked x n → (E : Emitted) → half_emission x n set ≡ E → HalfSays x n set E
    by_emission c (ok lines env) q = (c, q)
    by_emission c (refuse answer) q = by_refusal c answer q (given_refuses create rows x.kinds kinds_length (checked_given c) set start answer q)

    -- one look after another
    by_looks : (a b : Bool) (bad wrong : Option ℕ) → known_fit (length rows) (length x.kinds) ≡ a → declared_known x.kinds set.objects ≡ b → bad_pattern rows ≡ bad
        → wrong_kind create (kind_in x.kinds) rows ≡ wrong
        → HalfSays x n set
        (half_by (first (when (not a) Limit ∷ when (not b) BadStore ∷ option_map BadPattern bad ∷ option_map WrongKind wrong ∷ [])) (half_emission x n set))
    unfolding first
    by_looks false b bad wrong e f g h = λ w. rw e at (few.1 w)
    by_looks true false bad wrong e f g h = (few.0 (rw e tt), λ d. rw f at (declared.1 d))
    by_looks true true (Some row) wrong e f g h = (few.0 (rw e tt), declared.0 (rw f tt), (bad_pattern_at rows row).0 g)
    by_looks true true None (Some row) e f g h =
        (few.0 (rw e tt), declared.0 (rw f tt), (bad_pattern_none rows).0 g, (wrong_kind_at create (kind_in x.kinds) rows g row).0 h)
    by_looks true true None None e f g h =
        by_emission
        (record { few = few.0 (rw e tt); declared = declared.0 (rw f tt); rows = (bad_pattern_none rows).0 g; right = (wrong_kind_none create (kind_in x.kinds) rows g).0 h })
        (half_emission x n set) refl

    pub half_says : HalfSays x n set (half create rows x.kinds set)
    unfolding half
    half_says =
        by_looks (known_fit (length rows) (length x.kinds)) (declared_known x.kinds set.objects) (bad_pattern rows) (wrong_kind create (kind_in x.kinds) rows) refl refl refl refl

    -- and what is said is answered
    fits : FewRows x n → when (not (known_fit (length rows) (length x.kinds))) Limit ≡ None
    fits w = passes_when (known_fit (length rows) (length x.kinds)) Limit (few.1 w)

    allowed : Declared x n → when (not (declared_known x.kinds set.objects)) BadStore ≡ None
    allowed d = passes_when (declared_known x.kinds set.objects) BadStore (declared.1 d)

    checked_half : HalfChecked x n → half create rows x.kinds set ≡ half_emission x n set
    unfolding half first
    checked_half c =
        let good = (bad_pattern_none rows).1 c.rows in
        rw (fits c.few, allowed c.declared, good, (wrong_kind_none create (kind_in x.kinds) rows good).1 c.right)

    refuses_half : (answer : Compiled) → HalfRefuses x n set answer → half create rows x.kinds set ≡ refuse answer
    unfolding half first
    refuses_half Limit h = rw (fails_when (known_fit (length rows) (length x.kinds)) Limit (λ t. h (few.0 t)))
    refuses_half BadStore h = rw (fits h.0, fails_when (declared_known x.kinds set.objects) BadStore (λ t. h.1 (declared.0 t)))
    refuses_half (BadPattern row) h = rw (fits h.0, allowed h.1, (bad_pattern_at rows row).1 h.2)
    refuses_half (WrongKind row) h =
        let good = (bad_pattern_none rows).1 h.2 in
        rw (fits h.0, allowed h.1, good, (wrong_kind_at create (kind_in x.kinds) rows good row).1 h.3)
    refuses_half (WrittenWhileSet row) h = checked_half h.0 ∙ h.1
    refuses_half (ReadWhileUnset row) h = checked_half h.0 ∙ h.1
    refuses_half (CodeTooShort words) h = absurd h
    refuses_half (Done words) h = absurd h

    pub says_half : (E : Emitted) → HalfSays x n set E → half create rows x.kinds set ≡ E
    says_half (ok lines env) h = checked_half h.0 ∙ h.1
    says_half (refuse answer) h = refuses_half answer h
