-- Variables and keys, instruction after instruction.
use Prim.Native.Nat.{ℕ, zero, suc, ◌<◌}
use mathlib.Core.Path.{◌≡◌, refl, sym, subst, ◌∙◌}
use mathlib.Core.Bool.{Bool, true, false, cond}
use mathlib.Core.List.{List, []}
use native.Mathlib.Omega.{arith}
use lib.ListN.{get_or}
use lib.Dec.{lit≤}
use Rattle.answers.specs.declared.Compiled.TheVariants.{ReadWhileUnset}
use Rattle.numbers.specs.Sorts.{as_object}
use Rattle.code.specs.declared.Instruction.TheVariants.{Decode, Encode, Create, Opposite, KeyOf}
use Rattle.patterns.specs.Pattern.{Key, plain_key, op_key, certified_key}
use Rattle.patterns.specs.Row.{PatternFields, pattern_fields}
use Rattle.patterns.specs.Tree.{key_by}
use Rattle.theory.specs.World.{creatable}
use Rattle.theory.specs.Emission.{Env, Emitted, ok, refuse, emit}
use Rattle.theory.specs.Compilers.{CREATE, key_var}
use Rattle.knowing.specs.Known.{known}
use Rattle.knowing.specs.Steps.{read_object}
use Rattle.knowing.specs.Meets.{Does, refusing}
use Rattle.knowing.proofs.MeetsLaws.{does_le, does_none, does_seq, does_yes, does_no}
use Rattle.knowing.proofs.StepLaws.{read_unset}
use Rattle.numbers.specs.Kinds.{kind_in}
use Rattle.creating.specs.Creates.{variable_code, key_code}
use Rattle.knowing.specs.declared.Emission.{Emission}

-- t is what was seen of the variable, s of its kind
module _ (kinds : List ℕ) (row v : ℕ) (e : Emission) (code : List ℕ) (t : Bool) (seen : t ≡ known e.objects v) where
  abbrev unset : Env → Emitted
  unset env = cond (creatable (kind_in kinds v)) (emit row (CREATE v) env) (refuse (ReadWhileUnset row))

  pub variable_set : t ≡ true → Does (variable_code kinds row v) 1 0 e code e code
  unfolding variable_code
  variable_set h = does_yes (λ env. env.objects v) (ok []) unset (sym seen ∙ h) (does_le (lit≤ tt) (lit≤ tt) does_none)

  module _ (s : Bool) (kind : s ≡ creatable (get_or kinds v 0)) (e' : Emission) where
    pub variable_created : {code' : List ℕ} → t ≡ false → s ≡ true → Does (emit row (Create (as_object v))) 1 0 e code e' code'
        → Does (variable_code kinds row v) 1 0 e code e' code'
    unfolding variable_code
    variable_created {code'} h g k =
        does_no (λ env. env.objects v) (ok []) unset (sym seen ∙ h)
        (subst (λ (b : Bool). Does (λ env. cond b (emit row (CREATE v) env) (refuse (ReadWhileUnset row))) 1 0 e code e' code') (sym g ∙ kind) k)

    pub variable_refused : t ≡ false → s ≡ false → e' ≡ refusing (ReadWhileUnset row) e → Does (variable_code kinds row v) 1 0 e code e' code
    unfolding variable_code
    variable_refused h g same =
        let k : Does (read_object row v) 0 0 e code e' code = (read_unset e row v t seen e' h same).does code in
        does_le (lit≤ tt) (lit≤ tt)
        (subst (λ (b : Bool). Does (λ env. cond (env.objects v) (ok [] env) (cond b (emit row (CREATE v) env) (refuse (ReadWhileUnset row)))) 0 0 e code e' code) (sym g ∙ kind) k)

module _ (kinds : List ℕ) (row : ℕ) {e e₁ : Emission} {code code₁ : List ℕ} where
  pub opposite_key : (public private : ℕ) {e₂ : Emission} {code₂ : List ℕ} → Does (variable_code kinds row private) 1 0 e code e₁ code₁
      → Does (emit row (Opposite (as_object private) (as_object public))) 1 0 e₁ code₁ e₂ code₂ → Does (key_code kinds row (op_key public private)) 3 0 e code e₂ code₂
  unfolding variable_code key_code
  opposite_key public private k l = does_le (lit≤ tt) (lit≤ tt) (does_seq k l)

  pub plain_key_lem : (key : ℕ) → Does (variable_code kinds row key) 1 0 e code e₁ code₁ → Does (key_code kinds row (plain_key key)) 3 0 e code e₁ code₁
  unfolding variable_code key_code
  plain_key_lem key k = does_le (lit≤ tt) (lit≤ tt) k

  pub certified_key_lem : (key agent : ℕ) {e₂ e₃ : Emission} {code₂ code₃ : List ℕ} → Does (emit row (Encode (as_object agent))) 1 0 e code e₁ code₁ → Does (emit row KeyOf) 1 0 e₁ code₁ e₂ code₂
      → Does (emit row (Decode (as_object key))) 1 0 e₂ code₂ e₃ code₃ → Does (key_code kinds row (certified_key key agent)) 3 0 e code e₃ code₃
  unfolding key_code
  certified_key_lem key agent k l m = does_le (lit≤ tt) (lit≤ tt) (does_seq k (does_seq l m))

-- the variable of a key is X
pub key_variable : (row : PatternFields) → key_var (key_by row) ≡ row.x
key_variable row = go row.f refl
  where
    go : (f : ℕ) → row.f ≡ f → key_var (key_by row) ≡ row.x
    go zero e = rw e
    go (suc zero) e = rw e
    go (suc (suc zero)) e = rw e
    go (suc (suc (suc f))) e = rw e

module _ (kinds : List ℕ) (row word : ℕ) {e e₁ : Emission} {code code₁ : List ℕ} (x form : ℕ) (key : x ≡ (pattern_fields word).x) (read : form ≡ (pattern_fields word).f) where
  key_as : (k : Key) → key_by (pattern_fields word) ≡ k → Does (key_code kinds row k) 3 0 e code e₁ code₁ → Does (key_code kinds row (key_by (pattern_fields word))) 3 0 e code e₁ code₁
  key_as k h d = rw h d

  pub key_plain : form ≡ 0 → Does (variable_code kinds row x) 1 0 e code e₁ code₁ → Does (key_code kinds row (key_by (pattern_fields word))) 3 0 e code e₁ code₁
  key_plain h d = key_as (plain_key x) (rw (sym read ∙ h, key)) (plain_key_lem kinds row x d)

  module _ (y : ℕ) (second : y ≡ (pattern_fields word).y) where
    pub key_opposite : form ≡ 1 → Does (key_code kinds row (op_key x y)) 3 0 e code e₁ code₁ → Does (key_code kinds row (key_by (pattern_fields word))) 3 0 e code e₁ code₁
    key_opposite h d = key_as (op_key x y) (rw (sym read ∙ h, key, second)) d

    pub key_certified : ((pattern_fields word).f < 3) × ((pattern_fields word).x < 64) → (form ≡ 0 → ⊥) → (form ≡ 1 → ⊥) → Does (key_code kinds row (certified_key x y)) 3 0 e code e₁ code₁
        → Does (key_code kinds row (key_by (pattern_fields word))) 3 0 e code e₁ code₁
    key_certified few n₀ n₁ d =
        let two : (pattern_fields word).f ≡ 2 = omega (arith, n₀, n₁) in
        key_as (certified_key x y) (rw (two, key, second)) d

pub ruleset variable-ways = (variable_set, variable_created, variable_refused)
