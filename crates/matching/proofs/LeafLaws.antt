-- Rows with no children, by their tags.
use Prim.Native.Nat.{ℕ}
use mathlib.Core.Path.{◌≡◌, sym, ◌∙◌}
use mathlib.Core.List.{List}
use native.Mathlib.Omega.{arith}
use lib.Dec.{lit≤}
use Rattle.numbers.specs.Sorts.{as_object}
use Rattle.code.specs.declared.Instruction.TheVariants.{Decode, Verify}
use Rattle.patterns.specs.Pattern.{Key, plain_key, op_key, certified_key, object, raw, constant, opposite, key_of, signature, hash}
use Rattle.patterns.specs.Row.{pattern_fields}
use Rattle.patterns.specs.Tree.{key_by}
use Rattle.theory.specs.Machine.{named}
use Rattle.theory.specs.Emission.{emit}
use Rattle.theory.specs.Compilers.{compile↓, verifying}
use Rattle.knowing.specs.Meets.{Does}
use Rattle.patterns.specs.Standing.{Leaf}
use Rattle.emission.specs.Budget.{RowAt}
use Rattle.knowing.proofs.MeetsLaws.{does_le, does_seq}
use Rattle.emission.proofs.BudgetLaws.{as_leaf, leaf_room}
use Rattle.patterns.proofs.StandingLaws.{good_row, signature_key, object_row, raw_row, constant_row, opposite_row, key_of_row, signature_row, hash_row, above_four, seven_left, variable_low}
use Rattle.matching.specs.Matches.{Matches}
use Rattle.knowing.specs.declared.Emission.{Emission}

module _ (rows : List ℕ) (row word : ℕ) {e : Emission} {code : List ℕ} {e' : Emission} {code' : List ℕ} (asked : RowAt rows row word e) where
  module _ (tag : ℕ) (read : tag ≡ (pattern_fields word).tag) where
    module _ (v : ℕ) (variable : v ≡ (pattern_fields word).v) where
      pub leaf_object : tag ≡ 0 → Does (compile↓ (object row v)) 7 1 e code e' code' → Matches rows row e code e' code'
      leaf_object h k = as_leaf compile↓ rows row (object row v) (object_row asked.standing (sym read ∙ h) ∙ rw variable) k

      pub leaf_constant : (x : ℕ) → x ≡ (pattern_fields word).x → tag ≡ 2 → Does (compile↓ (constant row v x)) 7 1 e code e' code' → Matches rows row e code e' code'
      leaf_constant x second h k =
          as_leaf compile↓ rows row (constant row v x) (constant_row asked.standing (sym read ∙ h) ∙ rw (variable, second)) k

      pub leaf_opposite : (y : ℕ) → y ≡ (pattern_fields word).y → tag ≡ 3 → Does (compile↓ (opposite row v y)) 7 1 e code e' code' → Matches rows row e code e' code'
      leaf_opposite y second h k =
          as_leaf compile↓ rows row (opposite row v y) (opposite_row asked.standing (sym read ∙ h) ∙ rw (variable, second)) k

      pub leaf_key_of : (y : ℕ) → y ≡ (pattern_fields word).y → tag ≡ 4 → Does (compile↓ (key_of row v y)) 7 1 e code e' code' → Matches rows row e code e' code'
      leaf_key_of y second h k =
          as_leaf compile↓ rows row (key_of row v y) (key_of_row asked.standing (sym read ∙ h) ∙ rw (variable, second)) k

      pub leaf_hash : (r : ℕ) → r ≡ (pattern_fields word).r → Leaf (pattern_fields word).tag → (tag ≡ 0 → ⊥) → (tag ≡ 1 → ⊥) → (tag ≡ 2 → ⊥) → (tag ≡ 3 → ⊥) → (tag ≡ 4 → ⊥) → (tag ≡ 6 → ⊥)
          → Does (compile↓ (hash row v r)) 7 1 e code e' code' → Matches rows row e code e' code'
      leaf_hash r second leaf n₀ n₁ n₂ n₃ n₄ n₆ k =
          let low = (good_row asked.standing).tag in
          let high = above_four tag n₀ n₁ n₂ n₃ n₄ in
          let seven = seven_left (pattern_fields word).tag (omega arith) low leaf.encryption (λ h. n₆ (read ∙ h)) leaf.tuple leaf.let_in in
          as_leaf compile↓ rows row (hash row v r) (hash_row asked.standing seven ∙ rw (variable, second)) k

    pub leaf_raw : (r : ℕ) → r ≡ (pattern_fields word).r → tag ≡ 1 → Does (compile↓ (raw row r)) 7 1 e code e' code' → Matches rows row e code e' code'
    leaf_raw r second h k = as_leaf compile↓ rows row (raw row r) (raw_row asked.standing (sym read ∙ h) ∙ rw second) k

-- s : S(key, r)
module _ (rows : List ℕ) (row word : ℕ) {e : Emission} {code : List ℕ} {e₁ : Emission} {code₁ : List ℕ} {e₂ : Emission} {code₂ : List ℕ} (asked : RowAt rows row word e) (six : (pattern_fields word).tag ≡ 6) where
  module _ (v x r form : ℕ) (variable : v ≡ (pattern_fields word).v) (key : x ≡ (pattern_fields word).x) (body : r ≡ (pattern_fields word).r) (read : form ≡ (pattern_fields word).f)
      (decoded : Does (emit row (Decode (as_object v))) 1 0 e code e₁ code₁) where
    signed : (k : Key) → key_by (pattern_fields word) ≡ k → Does (verifying row k r) 6 1 e₁ code₁ e₂ code₂ → Matches rows row e code e₂ code₂
    signed k h m =
        as_leaf compile↓ rows row (signature row v k r) (signature_row asked.standing six ∙ rw (variable, body, h))
        (does_seq decoded m)

    pub signed_plain : form ≡ 0 → Does (emit row (Verify (as_object x) (named r))) 1 0 e₁ code₁ e₂ code₂ → Matches rows row e code e₂ code₂
    signed_plain h m = signed (plain_key x) (rw (sym read ∙ h, key)) (does_le (lit≤ tt) (lit≤ tt) m)

    module _ (y : ℕ) (second : y ≡ (pattern_fields word).y) where
      pub signed_opposite : form ≡ 1 → Does (verifying row (op_key x y) r) 6 1 e₁ code₁ e₂ code₂ → Matches rows row e code e₂ code₂
      signed_opposite h m = signed (op_key x y) (rw (sym read ∙ h, key, second)) m

      pub signed_certified : (form ≡ 0 → ⊥) → (form ≡ 1 → ⊥) → Does (verifying row (certified_key x y) r) 6 1 e₁ code₁ e₂ code₂ → Matches rows row e code e₂ code₂
      signed_certified n₀ n₁ m =
          let two : (pattern_fields word).f ≡ 2 = omega (arith, signature_key asked.standing six, n₀, n₁) in
          signed (certified_key x y) (rw (two, key, second)) m

pub ruleset leaf-asks = (variable_low, leaf_room)
