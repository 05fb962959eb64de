-- Rows with no children, by their tags.
use Prim.Native.Nat.{ℕ, ◌≤◌}
use mathlib.Core.Path.{◌≡◌, sym, ◌∙◌}
use mathlib.Core.List.{List}
use native.Mathlib.Omega.{arith}
use lib.ListN.{length}
use Rattle.numbers.specs.Kinds.{kind_in}
use Rattle.numbers.specs.declared.Object.{Object}
use Rattle.numbers.specs.declared.Raw.{Raw}
use Rattle.patterns.specs.Pattern.{Key, plain_key, op_key, certified_key, object, raw, constant, opposite, key_of, hash}
use Rattle.patterns.specs.Row.{pattern_fields}
use Rattle.patterns.specs.Standing.{pattern_in, StandsAt, Leaf}
use Rattle.patterns.proofs.StandingLaws.{good_row, object_row, raw_row, constant_row, opposite_row, key_of_row, hash_row, above_four, seven_left}
use Rattle.theory.specs.World.{Op, byte}
use Rattle.theory.specs.RowModel.{row_world}
use Rattle.theory.specs.Rules.{makes, made, create_key}
use Rattle.world.specs.Operations.{MakesWord}
use Rattle.machine.specs.Machine.{Slices, slices, with_objects, with_messages, with_term_rows, with_certificates, Within}
use Rattle.walks.specs.Walks.{Walked, message_and_stores, WalksBy}
use Rattle.walks.specs.declared.Walk.{Walk}
use Rattle.walk_values.specs.Values.{key_rule}
use Rattle.walk_leaves.specs.Creation.{creation, CreatesBy}
use Rattle.walk_leaves.proofs.FormLaws.{creates_as, over}

module _ (rows kinds certificates named : List ℕ) (w : Walk) (row word : ℕ) (asked : StandsAt rows row word) (objects terms : List ℕ) (tag : ℕ) (read : tag ≡ (pattern_fields word).tag) where
  abbrev whole : List ℕ → List ℕ → Slices
  whole objects terms = slices objects named terms certificates

  abbrev Creates : Walked → List ℕ → List ℕ → Type 0
  Creates answer objects' terms' = CreatesBy kinds (pattern_in rows row) w (whole objects terms) answer (whole objects' terms')

  abbrev Keys : Key → Walked → List ℕ → List ℕ → Type 0
  Keys key answer objects' terms' = WalksBy message_and_stores (key_rule kinds row key) w (λ x. over objects terms x) answer (λ x. over objects' terms' x)

  module _ (v : Object) (variable : v.0 ≡ (pattern_fields word).v) {answer : Walked} {objects' terms' : List ℕ} where
    pub leaf_object : tag ≡ 0 → Keys (plain_key v.0) answer objects' terms' → Creates answer objects' terms'
    unfolding creation key_rule
    leaf_object h k = creates_as kinds w {q = object row v.0} (object_row asked (sym read ∙ h) ∙ rw variable) (k (whole objects terms))

    pub leaf_constant : (b : ℕ) → b ≡ (pattern_fields word).x → (word' : ℕ) → MakesWord (byte b) word' → tag ≡ 2
        → ((kind : ℕ → ℕ) (o : Op ℕ) → MakesWord o word'
        → WalksBy message_and_stores (λ n. makes row_world kind row v.0 o n (made row_world kind)) w (λ x. over objects terms x) answer (λ x. over objects' terms' x))
        → Creates answer objects' terms'
    unfolding creation
    leaf_constant b second word' says h k =
        creates_as kinds w {q = constant row v.0 b} (constant_row asked (sym read ∙ h) ∙ rw (variable, second)) (k (kind_in kinds) (byte b) says (whole objects terms))

    module _ (y : Object) (second : y.0 ≡ (pattern_fields word).y) where
      pub leaf_opposite : tag ≡ 3 → Keys (op_key v.0 y.0) answer objects' terms' → Creates answer objects' terms'
      unfolding creation key_rule
      leaf_opposite h k = creates_as kinds w {q = opposite row v.0 y.0} (opposite_row asked (sym read ∙ h) ∙ rw (variable, second)) (k (whole objects terms))

      pub leaf_key_of : tag ≡ 4 → WalksBy message_and_stores (create_key row_world (kind_in kinds) row (certified_key v.0 y.0)) w
          (λ x. with_certificates (over objects terms x) certificates) answer (λ x. with_certificates (over objects' terms' x) certificates) → Creates answer objects' terms'
      unfolding creation
      leaf_key_of h k = creates_as kinds w {q = key_of row v.0 y.0} (key_of_row asked (sym read ∙ h) ∙ rw (variable, second)) (k (whole objects terms))

    pub leaf_hash : (r : Raw) → r.0 ≡ (pattern_fields word).r → Leaf (pattern_fields word).tag
        → (tag ≡ 0 → ⊥) → (tag ≡ 1 → ⊥) → (tag ≡ 2 → ⊥) → (tag ≡ 3 → ⊥) → (tag ≡ 4 → ⊥) → (tag ≡ 6 → ⊥)
        → ((x : Slices) → CreatesBy kinds (hash row v.0 r.0) w (with_term_rows (with_messages (with_objects x objects) named) terms) answer
        (with_term_rows (with_messages (with_objects x objects') named) terms')) → Creates answer objects' terms'
    leaf_hash r second leaf n₀ n₁ n₂ n₃ n₄ n₆ k =
        let low = (good_row asked).tag in
        let high = above_four tag n₀ n₁ n₂ n₃ n₄ in
        let seven = seven_left (pattern_fields word).tag (omega arith) low leaf.encryption (λ h. n₆ (read ∙ h)) leaf.tuple leaf.let_in in
        creates_as kinds w {q = hash row v.0 r.0} (hash_row asked seven ∙ rw (variable, second)) (k (whole objects terms))

  pub leaf_raw : {answer : Walked} (r : Raw) → r.0 ≡ (pattern_fields word).r → tag ≡ 1 → Within terms w.used
      → ((kinds : List ℕ) (x : Slices) → w.used ≤ length x.rows → CreatesBy kinds (raw row r.0) w (with_messages x named) answer (with_messages x named))
      → Creates answer objects terms
  leaf_raw r second h within k = creates_as kinds w {q = raw row r.0} (raw_row asked (sym read ∙ h) ∙ rw second) (k kinds (whole objects terms) within.used_rows_lem)
