-- Variables and keys that are created.
use Prim.Native.Nat.{ℕ, ◌<◌}
use mathlib.Core.Path.{◌≡◌, sym, ◌∙◌}
use mathlib.Core.Bool.{Bool, true, false}
use mathlib.Core.List.{List, [], ◌∷◌}
use native.Mathlib.Omega.{arith}
use lib.ListN.{get_or}
use Rattle.numbers.specs.Kinds.{kind_in}
use Rattle.patterns.specs.Pattern.{Key, plain_key, op_key, certified_key}
use Rattle.patterns.specs.Row.{pattern_fields}
use Rattle.patterns.specs.Tree.{key_by}
use Rattle.theory.specs.World.{creatable}
use Rattle.calls.specs.Looks.{reads, writes, reads_or_creates, creating_key_looks, known_in}
use Rattle.calls.proofs.LookLaws.{judged_one}
use Rattle.knowing.specs.Known.{known}
use Rattle.knowing.specs.Steps.{read_object, write_object}
use Rattle.knowing.specs.Meets.{env_of, Quiet}
use Rattle.surveys.specs.Surveys.{Surveys}
use Rattle.surveys.proofs.JoinLaws.{looks_by, looks_seq, looks_kept, looks_read, looks_write}
use Rattle.knowing.specs.declared.Emission.{Emission}

pub key_derived : {row key source : ℕ} {e e₁ e₂ : Emission} → Quiet (read_object row source) 0 e e₁ → Quiet (write_object row key) 0 e₁ e₂
    → (kind : ℕ → ℕ) → Surveys kind (reads row source ∷ writes row key ∷ []) e e₂
key_derived q p kind = looks_seq (looks_read q) (looks_write p)

-- t is what was seen of the variable, s of its kind
module _ (kinds : List ℕ) {row v : ℕ} {e : Emission} {t : Bool} (seen : t ≡ known e.objects v) where
  pub variable_set : t ≡ true → Surveys (kind_in kinds) (reads_or_creates row v ∷ []) e e
  variable_set h = looks_kept (judged_one (kind_in kinds) (reads_or_creates row v) (known_in (env_of e)) ∙ rw (sym seen ∙ h))

  module _ {s : Bool} (own : s ≡ creatable (get_or kinds v 0)) {e' : Emission} where
    pub variable_created : t ≡ false → s ≡ true → Quiet (write_object row v) 0 e e' → Surveys (kind_in kinds) (reads_or_creates row v ∷ []) e e'
    variable_created h g q =
        looks_by q (sym (judged_one (kind_in kinds) (reads_or_creates row v) (known_in (env_of e)) ∙ rw (sym seen ∙ h, sym own ∙ g)))

    pub variable_refused : t ≡ false → s ≡ false → Quiet (read_object row v) 0 e e' → Surveys (kind_in kinds) (reads_or_creates row v ∷ []) e e'
    variable_refused h g q =
        looks_by q (sym (judged_one (kind_in kinds) (reads_or_creates row v) (known_in (env_of e)) ∙ rw (sym seen ∙ h, sym own ∙ g)))

pub opposite_created : {kind : ℕ → ℕ} {row public private : ℕ} {e e₁ e₂ : Emission} → Surveys kind (reads_or_creates row private ∷ []) e e₁ → Quiet (write_object row public) 0 e₁ e₂
    → Surveys kind (creating_key_looks row (op_key public private)) e e₂
opposite_created s q = looks_seq s (looks_write q)

-- a key by its form
module _ {kind : ℕ → ℕ} (row word : ℕ) {e e' : Emission} where
  key_as : (k : Key) → key_by (pattern_fields word) ≡ k → Surveys kind (creating_key_looks row k) e e' → Surveys kind (creating_key_looks row (key_by (pattern_fields word))) e e'
  key_as k h s = rw h s

  module _ (x form : ℕ) (key : x ≡ (pattern_fields word).x) (read : form ≡ (pattern_fields word).f) where
    pub key_plain : form ≡ 0 → Surveys kind (reads_or_creates row x ∷ []) e e' → Surveys kind (creating_key_looks row (key_by (pattern_fields word))) e e'
    key_plain h s = key_as (plain_key x) (rw (sym read ∙ h, key)) s

    module _ (y : ℕ) (second : y ≡ (pattern_fields word).y) where
      pub key_opposite : form ≡ 1 → Surveys kind (creating_key_looks row (op_key x y)) e e' → Surveys kind (creating_key_looks row (key_by (pattern_fields word))) e e'
      key_opposite h s = key_as (op_key x y) (rw (sym read ∙ h, key, second)) s

      pub key_certified : (pattern_fields word).f < 3 → (form ≡ 0 → ⊥) → (form ≡ 1 → ⊥) → ((any : ℕ → ℕ) → Surveys any (reads row y ∷ writes row x ∷ []) e e')
          → Surveys kind (creating_key_looks row (key_by (pattern_fields word))) e e'
      key_certified few n₀ n₁ s =
          let two : (pattern_fields word).f ≡ 2 = omega (arith, n₀, n₁) in
          key_as (certified_key x y) (rw (two, key, second)) (s kind)

pub ruleset variable-ways = (variable_set, variable_created, variable_refused)
