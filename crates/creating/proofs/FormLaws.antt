-- The forms with no part, instruction after instruction.
use Prim.Native.Nat.{ℕ}
use mathlib.Core.List.{List}
use lib.Dec.{lit≤}
use Rattle.numbers.specs.Sorts.{as_object}
use Rattle.code.specs.declared.Instruction.TheVariants.{Load, StoreConst, Decode, Encode, Hash}
use Rattle.patterns.specs.Pattern.{op_key, certified_key, object, raw, constant, opposite, key_of, hash}
use Rattle.theory.specs.Machine.{named}
use Rattle.theory.specs.Emission.{emit}
use Rattle.knowing.specs.Meets.{Does}
use Rattle.knowing.proofs.MeetsLaws.{does_le, does_seq}
use Rattle.creating.specs.Creates.{variable_code, key_code, pattern_code}
use Rattle.knowing.specs.declared.Emission.{Emission}

module _ (kinds : List ℕ) (row : ℕ) {e e₁ : Emission} {code code₁ : List ℕ} where
  pub raw_done : (r : ℕ) → Does (emit row (Load (named r))) 1 0 e code e₁ code₁ → Does (pattern_code kinds (raw row r)) 7 1 e code e₁ code₁
  unfolding pattern_code
  raw_done r k = does_le (lit≤ tt) (lit≤ tt) k

  pub key_of_done : (key agent : ℕ) → Does (key_code kinds row (certified_key key agent)) 3 0 e code e₁ code₁ → Does (pattern_code kinds (key_of row key agent)) 7 1 e code e₁ code₁
  unfolding key_code pattern_code
  key_of_done key agent k = does_le (lit≤ tt) (lit≤ tt) k

  module _ {e₂ : Emission} {code₂ : List ℕ} where
    pub object_done : (v : ℕ) → Does (variable_code kinds row v) 1 0 e code e₁ code₁ → Does (emit row (Encode (as_object v))) 1 0 e₁ code₁ e₂ code₂
        → Does (pattern_code kinds (object row v)) 7 1 e code e₂ code₂
    unfolding variable_code pattern_code
    object_done v k l = does_le (lit≤ tt) (lit≤ tt) (does_seq k l)

    pub constant_done : (c byte : ℕ) → Does (emit row (StoreConst (as_object c) byte)) 1 0 e code e₁ code₁ → Does (emit row (Encode (as_object c))) 1 0 e₁ code₁ e₂ code₂
        → Does (pattern_code kinds (constant row c byte)) 7 1 e code e₂ code₂
    unfolding pattern_code
    constant_done c byte k l = does_le (lit≤ tt) (lit≤ tt) (does_seq k l)

    pub opposite_done : (public private : ℕ) → Does (key_code kinds row (op_key public private)) 3 0 e code e₁ code₁ → Does (emit row (Encode (as_object public))) 1 0 e₁ code₁ e₂ code₂
        → Does (pattern_code kinds (opposite row public private)) 7 1 e code e₂ code₂
    unfolding key_code pattern_code
    opposite_done public private k l = does_le (lit≤ tt) (lit≤ tt) (does_seq k l)

    pub hash_done : (h r : ℕ) {e₃ : Emission} {code₃ : List ℕ} → Does (emit row (Load (named r))) 1 0 e code e₁ code₁ → Does (emit row (Hash (as_object h))) 1 0 e₁ code₁ e₂ code₂
        → Does (emit row (Decode (as_object h))) 1 0 e₂ code₂ e₃ code₃ → Does (pattern_code kinds (hash row h r)) 7 1 e code e₃ code₃
    unfolding pattern_code
    hash_done h r k l m = does_le (lit≤ tt) (lit≤ tt) (does_seq k (does_seq l m))
