-- Rows with no children, by their tags.
use Prim.Native.Nat.{ℕ}
use mathlib.Core.Path.{◌≡◌, sym, ◌∙◌}
use mathlib.Core.List.{List}
use native.Mathlib.Omega.{arith}
use lib.Dec.{lit≤}
use Rattle.numbers.specs.Sorts.{as_object}
use Rattle.code.specs.declared.Instruction.TheVariants.{Load, Decode, Sign}
use Rattle.patterns.specs.Pattern.{certified_key, object, raw, constant, opposite, key_of, signature, hash}
use Rattle.patterns.specs.Row.{pattern_fields}
use Rattle.patterns.specs.Tree.{key_by}
use Rattle.theory.specs.Machine.{named}
use Rattle.theory.specs.Emission.{Env, Emitted, emit}
use Rattle.theory.specs.Compilers.{key_var}
use Rattle.knowing.specs.Meets.{Does, RoomFor}
use Rattle.patterns.specs.Standing.{Leaf}
use Rattle.emission.specs.Budget.{RowAt}
use Rattle.knowing.proofs.MeetsLaws.{does_le, does_seq}
use Rattle.emission.proofs.BudgetLaws.{as_leaf, leaf_room, room_le, room_then}
use Rattle.patterns.proofs.StandingLaws.{good_row, object_row, raw_row, constant_row, opposite_row, key_of_row, signature_row, hash_row, above_four, seven_left, variable_low, second_low}
use Rattle.creating.specs.Creates.{key_code, pattern_code, Creates}
use Rattle.creating.proofs.KeyLaws.{key_variable}
use Rattle.creating.proofs.FormLaws.{raw_done, key_of_done}
use Rattle.knowing.specs.declared.Emission.{Emission}

module _ (rows kinds : List ℕ) (row word : ℕ) {e : Emission} {code : List ℕ} {e' : Emission} {code' : List ℕ} (asked : RowAt rows row word e) where
  module _ (tag : ℕ) (read : tag ≡ (pattern_fields word).tag) where
    module _ (v : ℕ) (variable : v ≡ (pattern_fields word).v) where
      pub leaf_object : tag ≡ 0 → Does (pattern_code kinds (object row v)) 7 1 e code e' code' → Creates rows kinds row e code e' code'
      leaf_object h k = as_leaf (pattern_code kinds) rows row (object row v) (object_row asked.standing (sym read ∙ h) ∙ rw variable) k

      pub leaf_constant : (x : ℕ) → x ≡ (pattern_fields word).x → tag ≡ 2 → ((any : List ℕ) → Does (pattern_code any (constant row v x)) 7 1 e code e' code') → Creates rows kinds row e code e' code'
      leaf_constant x second h k =
          as_leaf (pattern_code kinds) rows row (constant row v x) (constant_row asked.standing (sym read ∙ h) ∙ rw (variable, second)) (k kinds)

      pub leaf_opposite : (y : ℕ) → y ≡ (pattern_fields word).y → tag ≡ 3 → Does (pattern_code kinds (opposite row v y)) 7 1 e code e' code' → Creates rows kinds row e code e' code'
      leaf_opposite y second h k =
          as_leaf (pattern_code kinds) rows row (opposite row v y) (opposite_row asked.standing (sym read ∙ h) ∙ rw (variable, second)) k

      pub leaf_key_of : (y : ℕ) → y ≡ (pattern_fields word).y → tag ≡ 4 → ((any : List ℕ) → Does (key_code any row (certified_key v y)) 3 0 e code e' code') → Creates rows kinds row e code e' code'
      leaf_key_of y second h k =
          as_leaf (pattern_code kinds) rows row (key_of row v y) (key_of_row asked.standing (sym read ∙ h) ∙ rw (variable, second)) (key_of_done kinds row v y (k kinds))

      pub leaf_hash : (r : ℕ) → r ≡ (pattern_fields word).r → Leaf (pattern_fields word).tag → (tag ≡ 0 → ⊥) → (tag ≡ 1 → ⊥) → (tag ≡ 2 → ⊥) → (tag ≡ 3 → ⊥) → (tag ≡ 4 → ⊥) → (tag ≡ 6 → ⊥)
          → ((any : List ℕ) → Does (pattern_code any (hash row v r)) 7 1 e code e' code') → Creates rows kinds row e code e' code'
      leaf_hash r second leaf n₀ n₁ n₂ n₃ n₄ n₆ k =
          let low = (good_row asked.standing).tag in
          let high = above_four tag n₀ n₁ n₂ n₃ n₄ in
          let seven = seven_left (pattern_fields word).tag (omega arith) low leaf.encryption (λ h. n₆ (read ∙ h)) leaf.tuple leaf.let_in in
          as_leaf (pattern_code kinds) rows row (hash row v r) (hash_row asked.standing seven ∙ rw (variable, second)) (k kinds)

    pub leaf_raw : (r : ℕ) → r ≡ (pattern_fields word).r → tag ≡ 1 → Does (emit row (Load (named r))) 1 0 e code e' code' → Creates rows kinds row e code e' code'
    leaf_raw r second h k = as_leaf (pattern_code kinds) rows row (raw row r) (raw_row asked.standing (sym read ∙ h) ∙ rw second) (raw_done kinds row r k)

-- s : S(key, r)
module _ (rows : List ℕ) (row word : ℕ) {e : Emission} (asked : RowAt rows row word e) where
  pub load_room : RoomFor 1 0 e
  load_room = room_le (lit≤ tt) (lit≤ tt) (leaf_room rows row word e asked)

  pub key_room : RoomFor 3 0 e
  key_room = room_le (lit≤ tt) (lit≤ tt) (leaf_room rows row word e asked)

  module _ {f : Env → Emitted} {code : List ℕ} {e₁ : Emission} {code₁ : List ℕ} (keyed : Does f 3 0 e code e₁ code₁) where
    left : RoomFor 4 1 e₁
    left = room_then (lit≤ tt) (lit≤ tt) (leaf_room rows row word e asked) keyed

    pub body_room : RoomFor 1 0 e₁
    body_room = room_le (lit≤ tt) (lit≤ tt) left

    module _ {g : Env → Emitted} {e₂ : Emission} {code₂ : List ℕ} (loaded : Does g 1 0 e₁ code₁ e₂ code₂) where
      pub sign_room : RoomFor 1 0 e₂
      sign_room = room_then (lit≤ tt) (lit≤ tt) left loaded

      pub decode_room : {h : Env → Emitted} {e₃ : Emission} {code₃ : List ℕ} → Does h 1 0 e₂ code₂ e₃ code₃ → RoomFor 1 0 e₃
      decode_room signed = room_then (lit≤ tt) (lit≤ tt) left (does_seq loaded signed)

  pub signed : (kinds : List ℕ) → (pattern_fields word).tag ≡ 6 → (v x r : ℕ) → v ≡ (pattern_fields word).v → x ≡ (pattern_fields word).x → r ≡
      (pattern_fields word).r → {code : List ℕ} {e₁ : Emission} {code₁ : List ℕ} {e₂ : Emission} {code₂ : List ℕ} {e₃ : Emission} {code₃ : List ℕ} {e₄ : Emission} {code₄ : List ℕ}
      → Does (key_code kinds row (key_by (pattern_fields word))) 3 0 e code e₁ code₁ → Does (emit row (Load (named r))) 1 0 e₁ code₁ e₂ code₂
      → Does (emit row (Sign (as_object x))) 1 0 e₂ code₂ e₃ code₃ → Does (emit row (Decode (as_object v))) 1 0 e₃ code₃ e₄ code₄ → Creates rows kinds row e code e₄ code₄
  unfolding key_code pattern_code
  signed kinds six v x r variable key body {e₂ = e₂} {code₂ = code₂} {e₃ = e₃} {code₃ = code₃} k l m n =
      let same : x ≡ key_var (key_by (pattern_fields word)) = key ∙ sym (key_variable (pattern_fields word)) in
      let o : Does (emit row (Sign (as_object (key_var (key_by (pattern_fields word)))))) 1 0 e₂ code₂ e₃ code₃ = rw same at m in
      as_leaf (pattern_code kinds) rows row (signature row v (key_by (pattern_fields word)) r)
      (signature_row asked.standing six ∙ rw (variable, body))
      (does_le (lit≤ tt) (lit≤ tt) (does_seq k (does_seq l (does_seq o n))))

pub ruleset leaf-asks = (variable_low, second_low, leaf_room, load_room, key_room)
