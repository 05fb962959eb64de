-- Rows with no children, by their tags.
use Prim.Native.Nat.{ℕ, ◌<◌}
use mathlib.Core.Path.{◌≡◌, refl, sym, ap, ◌∙◌}
use mathlib.Core.List.{List}
use native.Mathlib.Omega.{arith}
use lib.ListN.{length}
use Rattle.numbers.specs.Limits.{variables, named_cells}
use Rattle.numbers.specs.declared.Object.{Object}
use Rattle.numbers.specs.declared.Raw.{Raw}
use Rattle.patterns.specs.Pattern.{Pattern, object, raw, constant, opposite, key_of, signature, hash}
use Rattle.patterns.specs.Row.{pattern_fields}
use Rattle.patterns.specs.Standing.{pattern_in, StandsAt, Leaf}
use Rattle.patterns.specs.Tree.{key_by}
use Rattle.patterns.proofs.StandingLaws.{good_row, signature_key, object_row, raw_row, constant_row, opposite_row, key_of_row, signature_row, hash_row, above_four, seven_left, variable_low}
use Rattle.patterns.proofs.RowLaws.{raw_below}
use Rattle.machine.specs.Machine.{Slices, slices, with_objects, with_messages, with_term_rows, with_certificates, Within}
use Rattle.walks.specs.Walks.{Walked, stores_at, Comes, stores_alone, WalksBy}
use Rattle.walks.specs.declared.Walk.{Walk}
use Rattle.walks.proofs.ComesLaws.{comes_as}
use Rattle.leaf_matching.specs.Stages.{WalksInside}
use Rattle.leaf_matching.specs.Matched.{meets, WalkMatches}

-- what the forms ask for
module _ (objects : List ℕ) (long : length objects ≡ variables) (word : ℕ) where
  pub variable_inside : (v : Object) → v.0 ≡ (pattern_fields word).v → v.0 < length objects
  variable_inside v e = omega (arith, variable_low word v.0 e, long)

  pub field_inside : (pattern_fields word).v < length objects
  field_inside = omega (arith, variable_low word (pattern_fields word).v refl, long)

  module _ {patterns : List ℕ} {row tag : ℕ} (asked : StandsAt patterns row word) (read : tag ≡ (pattern_fields word).tag) (six : tag ≡ 6) where
    pub key_inside : (pattern_fields word).x < length objects
    key_inside = omega (arith, (signature_key asked (sym read ∙ six)).1, long)

pub raw_inside : (named : List ℕ) → length named ≡ named_cells → (word : ℕ) (r : Raw) → r.0 ≡ (pattern_fields word).r → r.0 < length named
raw_inside named long word r e = omega (arith, raw_below word, e, long)

pub key_form_low : {word : ℕ} {patterns : List ℕ} {row tag : ℕ} → StandsAt patterns row word → tag ≡ (pattern_fields word).tag → tag ≡ 6 → (pattern_fields word).f < 3
key_form_low asked read six = (signature_key asked (sym read ∙ six)).0

pub raw_named : (word : ℕ) (r : Raw) → r.0 ≡ (pattern_fields word).r → r.0 < 64
raw_named word r e = rw e (raw_below word)

pub ruleset leaf-asks = (variable_inside, raw_inside, field_inside, key_inside, key_form_low, raw_named)

module _ (patterns : List ℕ) (kind : ℕ → ℕ) (certificates rows objects named : List ℕ) (row word : ℕ) (w : Walk) (asked : StandsAt patterns row word) (tag : ℕ)
    (read : tag ≡ (pattern_fields word).tag) where
  abbrev before : Slices
  before = slices objects named rows certificates

  abbrev Matches : Walked → List ℕ → List ℕ → List ℕ → Type 0
  Matches answer objects' named' rows' = WalkMatches patterns kind row w before answer (slices objects' named' rows' certificates)

  as_form : {answer : Walked} {after : Slices} (p : Pattern) → pattern_in patterns row ≡ p → Comes stores_alone w.used before (meets kind p w (stores_at w before)) answer after
      → WalkMatches patterns kind row w before answer after
  as_form p e h = comes_as (ap (λ (p : Pattern). meets kind p w (stores_at w before)) e) h

  module _ {answer : Walked} {objects' : List ℕ} (v : Object) (variable : v.0 ≡ (pattern_fields word).v) where
    pub leaf_object : tag ≡ 0
        → WalksBy stores_alone (meets kind (object row v.0) w) w (λ x. with_term_rows (with_objects x objects) rows) answer (λ x. with_term_rows (with_objects x objects') rows)
        → Matches answer objects' named rows
    leaf_object h walked = as_form (object row v.0) (object_row asked (sym read ∙ h) ∙ rw variable) (walked before)

    pub leaf_constant : {rows' : List ℕ} (x : ℕ) → x ≡ (pattern_fields word).x → tag ≡ 2
        → ((kind : ℕ → ℕ) → WalksBy stores_alone (meets kind (constant row v.0 x) w) w (λ x. with_term_rows (with_objects x objects) rows) answer (λ x. with_term_rows
        (with_objects x objects') rows'))
        → Matches answer objects' named rows'
    leaf_constant x second h walked = as_form (constant row v.0 x) (constant_row asked (sym read ∙ h) ∙ rw (variable, second)) (walked kind before)

    module _ (y : Object) (second : y.0 ≡ (pattern_fields word).y) where
      pub leaf_opposite : {rows' : List ℕ} → tag ≡ 3
          → ((kind : ℕ → ℕ) → WalksBy stores_alone (meets kind (opposite row v.0 y.0) w) w (λ x. with_term_rows (with_objects x objects) rows) answer (λ x. with_term_rows
          (with_objects x objects') rows'))
          → Matches answer objects' named rows'
      leaf_opposite h walked = as_form (opposite row v.0 y.0) (opposite_row asked (sym read ∙ h) ∙ rw (variable, second)) (walked kind before)

      pub leaf_key_of : tag ≡ 4
          → WalksBy stores_alone (meets kind (key_of row v.0 y.0) w) w
          (λ x. with_certificates (with_term_rows (with_objects x objects) rows) certificates) answer (λ x. with_certificates (with_term_rows (with_objects x objects') rows) certificates)
          → Matches answer objects' named rows
      leaf_key_of h walked = as_form (key_of row v.0 y.0) (key_of_row asked (sym read ∙ h) ∙ rw (variable, second)) (walked before)

    pub leaf_hash : {rows' : List ℕ} (r : Raw) → r.0 ≡ (pattern_fields word).r → Leaf (pattern_fields word).tag
        → (tag ≡ 0 → ⊥) → (tag ≡ 1 → ⊥) → (tag ≡ 2 → ⊥) → (tag ≡ 3 → ⊥) → (tag ≡ 4 → ⊥) → (tag ≡ 6 → ⊥)
        → WalksBy stores_alone (meets kind (hash row v.0 r.0) w) w
        (λ x. with_term_rows (with_messages (with_objects x objects) named) rows) answer (λ x. with_term_rows (with_messages (with_objects x objects') named) rows')
        → Matches answer objects' named rows'
    leaf_hash r second leaf n₀ n₁ n₂ n₃ n₄ n₆ walked =
        let low = (good_row asked).tag in
        let high = above_four tag n₀ n₁ n₂ n₃ n₄ in
        let seven = seven_left (pattern_fields word).tag (omega arith) low leaf.encryption (λ h. n₆ (read ∙ h)) leaf.tuple leaf.let_in in
        as_form (hash row v.0 r.0) (hash_row asked seven ∙ rw (variable, second)) (walked before)

  pub leaf_raw : {answer : Walked} {named' : List ℕ} (r : Raw) → r.0 ≡ (pattern_fields word).r → tag ≡ 1 → Within rows w.used
      → ((kind : ℕ → ℕ) → WalksInside stores_alone (meets kind (raw row r.0) w) w (λ x. with_messages x named) answer (λ x. with_messages x named'))
      → Matches answer objects named' rows
  leaf_raw r second h within walked = as_form (raw row r.0) (raw_row asked (sym read ∙ h) ∙ rw second) ((walked kind).walks before within.used_rows_lem)

  pub leaf_signature : {answer : Walked} {objects' rows' : List ℕ} → tag ≡ 6
      → WalksBy stores_alone (meets kind (signature row (pattern_fields word).v (key_by (pattern_fields word)) (pattern_fields word).r) w) w
      (λ x. with_certificates (with_term_rows (with_messages (with_objects x objects) named) rows) certificates) answer
      (λ x. with_certificates (with_term_rows (with_messages (with_objects x objects') named) rows') certificates)
      → Matches answer objects' named rows'
  leaf_signature h walked =
      as_form (signature row (pattern_fields word).v (key_by (pattern_fields word)) (pattern_fields word).r) (signature_row asked (sym read ∙ h)) (walked before)

pub ruleset leaf-ways = (leaf_object, leaf_raw, leaf_constant, leaf_opposite, leaf_key_of, leaf_signature, leaf_hash)
