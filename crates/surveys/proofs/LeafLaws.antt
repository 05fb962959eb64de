-- Rows with no children, by their tags.
use Prim.Native.Nat.{ℕ, zero, suc, ◌<◌}
use mathlib.Core.Path.{◌≡◌, refl, sym, ◌∙◌}
use mathlib.Core.List.{List, [], ◌∷◌}
use native.Mathlib.Omega.{arith}
use Rattle.patterns.specs.Pattern.{Pattern, plain_key, op_key, certified_key, object, raw, constant, opposite, key_of, signature, hash}
use Rattle.patterns.specs.Row.{pattern_fields}
use Rattle.patterns.specs.Standing.{pattern_in, StandsAt, Leaf}
use Rattle.patterns.specs.Tree.{key_by}
use Rattle.patterns.proofs.StandingLaws.{good_row, signature_key, object_row, raw_row, constant_row, opposite_row, key_of_row, signature_row, hash_row, above_four, seven_left, variable_low, second_low}
use Rattle.calls.specs.Looks.{Look, reads, writes, creating_key_looks, matching_looks, creating_looks}
use Rattle.knowing.specs.Steps.{read_object, write_object, read_raw}
use Rattle.knowing.specs.Meets.{Quiet}
use Rattle.surveys.specs.Surveys.{Surveys}
use Rattle.surveys.proofs.JoinLaws.{looks_seq, looks_read, looks_write, looks_read_raw}
use Rattle.knowing.specs.declared.Emission.{Emission}

-- R is one of the 64 raw variables
pub raw_low : (word r : ℕ) → r ≡ (pattern_fields word).r → r < 64
unfolding pattern_fields
raw_low word r e = rw e (omega arith)

-- either direction's looks at a row whose pattern is known
pub as_row : (f : Pattern → List Look) (rows : List ℕ) (row : ℕ) (p : Pattern) {kind : ℕ → ℕ} {e e' : Emission} → pattern_in rows row ≡ p → Surveys kind (f p) e e'
    → Surveys kind (f (pattern_in rows row)) e e'
as_row f rows row p h s = rw h s

module _ (f : Pattern → List Look) (rows : List ℕ) (row word : ℕ) (asked : StandsAt rows row word) {tag : ℕ} (read : tag ≡ (pattern_fields word).tag) {kind : ℕ → ℕ} {e e' : Emission} where
  module _ (v : ℕ) (variable : v ≡ (pattern_fields word).v) where
    pub leaf_object : tag ≡ 0 → Surveys kind (f (object row v)) e e' → Surveys kind (f (pattern_in rows row)) e e'
    leaf_object h s = as_row f rows row (object row v) (object_row asked (sym read ∙ h) ∙ rw variable) s

    pub leaf_constant : tag ≡ 2 → Surveys kind (f (constant row v (pattern_fields word).x)) e e' → Surveys kind (f (pattern_in rows row)) e e'
    leaf_constant h s = as_row f rows row (constant row v (pattern_fields word).x) (constant_row asked (sym read ∙ h) ∙ rw variable) s

    module _ (y : ℕ) (second : y ≡ (pattern_fields word).y) where
      pub leaf_opposite : tag ≡ 3 → Surveys kind (f (opposite row v y)) e e' → Surveys kind (f (pattern_in rows row)) e e'
      leaf_opposite h s = as_row f rows row (opposite row v y) (opposite_row asked (sym read ∙ h) ∙ rw (variable, second)) s

      pub leaf_key_of : tag ≡ 4 → Surveys kind (f (key_of row v y)) e e' → Surveys kind (f (pattern_in rows row)) e e'
      leaf_key_of h s = as_row f rows row (key_of row v y) (key_of_row asked (sym read ∙ h) ∙ rw (variable, second)) s

    pub leaf_hash : (r : ℕ) → r ≡ (pattern_fields word).r → Leaf (pattern_fields word).tag → (tag ≡ 0 → ⊥) → (tag ≡ 1 → ⊥) → (tag ≡ 2 → ⊥) → (tag ≡ 3 → ⊥) → (tag ≡ 4 → ⊥) → (tag ≡ 6 → ⊥)
        → Surveys kind (f (hash row v r)) e e' → Surveys kind (f (pattern_in rows row)) e e'
    leaf_hash r second leaf n₀ n₁ n₂ n₃ n₄ n₆ s =
        let low = (good_row asked).tag in
        let high = above_four tag n₀ n₁ n₂ n₃ n₄ in
        let seven = seven_left (pattern_fields word).tag (omega arith) low leaf.encryption (λ h. n₆ (read ∙ h)) leaf.tuple leaf.let_in in
        as_row f rows row (hash row v r) (hash_row asked seven ∙ rw (variable, second)) s

  pub leaf_raw : (r : ℕ) → r ≡ (pattern_fields word).r → tag ≡ 1 → Surveys kind (f (raw row r)) e e' → Surveys kind (f (pattern_in rows row)) e e'
  leaf_raw r second h s = as_row f rows row (raw row r) (raw_row asked (sym read ∙ h) ∙ rw second) s

module _ {row : ℕ} {e e₁ e₂ : Emission} where
  pub key_of_matched : {key agent : ℕ} → Quiet (write_object row key) 0 e e₁ → Quiet (read_object row agent) 0 e₁ e₂ → (kind : ℕ → ℕ) → Surveys kind (matching_looks (key_of row key agent)) e e₂
  key_of_matched q p kind = looks_seq (looks_write q) (looks_read p)

  module _ {h r : ℕ} (low : r < 64) where
    pub hash_matched : Quiet (write_object row h) 0 e e₁ → Quiet (read_raw row r) 0 e₁ e₂ → (kind : ℕ → ℕ) → Surveys kind (matching_looks (hash row h r)) e e₂
    hash_matched q p kind = looks_seq (looks_write q) (looks_read_raw low p)

    pub hash_created : Quiet (read_raw row r) 0 e e₁ → Quiet (write_object row h) 0 e₁ e₂ → (kind : ℕ → ℕ) → Surveys kind (creating_looks (hash row h r)) e e₂
    hash_created q p kind = looks_seq (looks_read_raw low q) (looks_write p)

-- s : S(key, r)
module _ (rows : List ℕ) (row word : ℕ) (asked : StandsAt rows row word) (six : (pattern_fields word).tag ≡ 6) (v r : ℕ) (variable : v ≡ (pattern_fields word).v) (body : r ≡ (pattern_fields word).r)
    {e e₁ e₂ e₃ : Emission} where
  module _ (x form : ℕ) (key : x ≡ (pattern_fields word).x) (read : form ≡ (pattern_fields word).f) (written : Quiet (write_object row v) 0 e e₁) where
    pub signed_plain : form ≡ 0 → Quiet (read_object row x) 0 e₁ e₂ → Quiet (read_raw row r) 0 e₂ e₃ → (kind : ℕ → ℕ) → Surveys kind (matching_looks (pattern_in rows row)) e e₃
    signed_plain h q p kind =
        as_row matching_looks rows row (signature row v (plain_key x) r) (signature_row asked six ∙ rw (variable, body, sym read ∙ h, key))
        (looks_seq (looks_write written) (looks_seq (looks_read q) (looks_read_raw (raw_low word r body) p)))

    pub signed_derived : (y : ℕ) → y ≡ (pattern_fields word).y → (form ≡ 0 → ⊥) → ((kind : ℕ → ℕ) → Surveys kind (reads row y ∷ writes row x ∷ []) e₁ e₂) → Quiet (read_raw row r) 0 e₂ e₃
        → (kind : ℕ → ℕ) → Surveys kind (matching_looks (pattern_in rows row)) e e₃
    signed_derived y second other s p kind = by (pattern_fields word).f refl
      where
        looks : Surveys kind (matching_looks (signature row v (op_key x y) r)) e e₃
        looks = looks_seq (looks_write written) (looks_seq (s kind) (looks_read_raw (raw_low word r body) p))

        by : (f : ℕ) → (pattern_fields word).f ≡ f → Surveys kind (matching_looks (pattern_in rows row)) e e₃
        by zero h = absurd (other (read ∙ h))
        by (suc zero) h = as_row matching_looks rows row (signature row v (op_key x y) r) (signature_row asked six ∙ rw (h, variable, body, key, second)) looks
        by (suc (suc zero)) h = as_row matching_looks rows row (signature row v (certified_key x y) r) (signature_row asked six ∙ rw (h, variable, body, key, second)) looks
        by (suc (suc (suc f))) h = absurd (omega (arith, signature_key asked six))

  pub signed_created : {kind : ℕ → ℕ} → Surveys kind (creating_key_looks row (key_by (pattern_fields word))) e e₁ → Quiet (read_raw row r) 0 e₁ e₂ → Quiet (write_object row v) 0 e₂ e₃
      → Surveys kind (creating_looks (pattern_in rows row)) e e₃
  signed_created s q p =
      as_row creating_looks rows row (signature row v (key_by (pattern_fields word)) r) (signature_row asked six ∙ rw (variable, body))
      (looks_seq s (looks_seq (looks_read_raw (raw_low word r body) q) (looks_write p)))

pub ruleset leaf-asks = (variable_low, second_low, raw_low)
