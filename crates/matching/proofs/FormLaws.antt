-- The forms with no part, instruction after instruction.
use Prim.Native.Nat.{ℕ}
use mathlib.Core.Path.{◌≡◌, sym, ap, ◌∙◌}
use mathlib.Core.Bool.{Bool, true, false}
use mathlib.Core.List.{List}
use lib.Dec.{lit≤}
use Rattle.numbers.specs.Sorts.{as_object}
use Rattle.numbers.specs.declared.Raw.{Raw}
use Rattle.code.specs.declared.Instruction.TheVariants.{Load, Store, StoreConst, Decode, Encode, Opposite, KeyOf, Match, Verify, Hash}
use Rattle.patterns.specs.Pattern.{op_key, certified_key, object, raw, constant, opposite, key_of, hash}
use Rattle.theory.specs.Machine.{named, scratch}
use Rattle.theory.specs.Emission.{emit, take, ◌then◌}
use Rattle.theory.specs.Compilers.{LOAD, STORE, STORE_CONST, DECODE, ENCODE, OPPOSITE, KEY_OF, MATCH, VERIFY, HASH, compile↓, verifying}
use Rattle.knowing.specs.Known.{known}
use Rattle.knowing.specs.Steps.{raise}
use Rattle.knowing.specs.Meets.{Does, Quiet}
use Rattle.knowing.proofs.MeetsLaws.{does_le, does_seq, does_yes, does_no, does_take}
use Rattle.knowing.specs.declared.Emission.{Emission}

module _ (row : ℕ) {e e₁ : Emission} {code code₁ : List ℕ} where
  -- t is what was seen of the variable
  module _ (v : ℕ) (t : Bool) where
    pub object_unset : t ≡ known e.objects v → t ≡ false → Does (emit row (Decode (as_object v))) 1 0 e code e₁ code₁ → Does (compile↓ (object row v)) 7 1 e code e₁ code₁
    object_unset seen h k =
        does_no (λ env. env.objects v) (take 1 λ rˢ. emit row (STORE (scratch rˢ)) then emit row (ENCODE v) then emit row (MATCH (scratch rˢ))) (emit row (DECODE v))
        (sym seen ∙ h) (does_le (lit≤ tt) (lit≤ tt) k)

    pub raw_set : t ≡ known e.raws v → t ≡ true → Does (emit row (Match (named v))) 1 0 e code e₁ code₁ → Does (compile↓ (raw row v)) 7 1 e code e₁ code₁
    raw_set seen h k =
        does_yes (λ env. env.raws v) (emit row (MATCH (named v))) (emit row (STORE (named v))) (sym seen ∙ h) (does_le (lit≤ tt) (lit≤ tt) k)

    pub raw_unset : t ≡ known e.raws v → t ≡ false → Does (emit row (Store (named v))) 1 0 e code e₁ code₁ → Does (compile↓ (raw row v)) 7 1 e code e₁ code₁
    raw_unset seen h k =
        does_no (λ env. env.raws v) (emit row (MATCH (named v))) (emit row (STORE (named v))) (sym seen ∙ h) (does_le (lit≤ tt) (lit≤ tt) k)

  pub verify_opposite : (public private r : ℕ) {e₂ : Emission} {code₂ : List ℕ} → Does (emit row (Opposite (as_object private) (as_object public))) 1 0 e code e₁ code₁
      → Does (emit row (Verify (as_object public) (named r))) 1 0 e₁ code₁ e₂ code₂ → Does (verifying row (op_key public private) r) 6 1 e code e₂ code₂
  verify_opposite public private r k l = does_le (lit≤ tt) (lit≤ tt) (does_seq k l)

at_first : {s : Raw} {number n : ℕ} → s ≡ scratch number → number ≡ n → s ≡ scratch n
at_first made next = made ∙ ap scratch next

-- the message is stored in a scratch cell first
module _ (row : ℕ) (s : Raw) {e e₀ e₁ e₂ e₃ : Emission} {code code₁ code₂ code₃ : List ℕ} (number : ℕ) (made : s ≡ scratch number) (next : number ≡ e.next) (taken : Quiet (raise 1) 1 e e₀)
    (stored : Does (emit row (Store s)) 1 0 e₀ code e₁ code₁) where
  pub object_set : (v : ℕ) (t : Bool) → t ≡ known e.objects v → t ≡ true → Does (emit row (Encode (as_object v))) 1 0 e₁ code₁ e₂ code₂
      → Does (emit row (Match s)) 1 0 e₂ code₂ e₃ code₃ → Does (compile↓ (object row v)) 7 1 e code e₃ code₃
  object_set v t seen h k l =
      does_yes (λ env. env.objects v) (take 1 λ rˢ. emit row (STORE (scratch rˢ)) then emit row (ENCODE v) then emit row (MATCH (scratch rˢ))) (emit row (DECODE v))
      (sym seen ∙ h)
      (does_le (lit≤ tt) (lit≤ tt)
      (does_take (λ rˢ. emit row (STORE (scratch rˢ)) then emit row (ENCODE v) then emit row (MATCH (scratch rˢ))) taken
      (does_seq (rw (at_first made next) at stored) (does_seq k (rw (at_first made next) at l)))))

  pub constant_done : (c byte : ℕ) {e₄ : Emission} {code₄ : List ℕ} → Does (emit row (StoreConst (as_object c) byte)) 1 0 e₁ code₁ e₂ code₂ → Does (emit row (Encode (as_object c))) 1 0 e₂ code₂ e₃ code₃
      → Does (emit row (Match s)) 1 0 e₃ code₃ e₄ code₄ → Does (compile↓ (constant row c byte)) 7 1 e code e₄ code₄
  constant_done c byte k l m =
      does_le (lit≤ tt) (lit≤ tt)
      (does_take (λ rˢ. emit row (STORE (scratch rˢ)) then emit row (STORE_CONST c byte) then emit row (ENCODE c) then emit row (MATCH (scratch rˢ))) taken
      (does_seq (rw (at_first made next) at stored) (does_seq k (does_seq l (rw (at_first made next) at m)))))

  pub opposite_done : (public private : ℕ) {e₄ : Emission} {code₄ : List ℕ} → Does (emit row (Opposite (as_object private) (as_object public))) 1 0 e₁ code₁ e₂ code₂
      → Does (emit row (Encode (as_object public))) 1 0 e₂ code₂ e₃ code₃ → Does (emit row (Match s)) 1 0 e₃ code₃ e₄ code₄
      → Does (compile↓ (opposite row public private)) 7 1 e code e₄ code₄
  opposite_done public private k l m =
      does_le (lit≤ tt) (lit≤ tt)
      (does_take (λ rˢ. emit row (STORE (scratch rˢ)) then emit row (OPPOSITE private public) then emit row (ENCODE public) then emit row (MATCH (scratch rˢ))) taken
      (does_seq (rw (at_first made next) at stored) (does_seq k (does_seq l (rw (at_first made next) at m)))))

  module _ {d e₄ : Emission} {code₀ code₄ : List ℕ} where
    pub key_of_done : (key agent : ℕ) → Does (emit row (Decode (as_object key))) 1 0 d code₀ e code → Does (emit row (Encode (as_object agent))) 1 0 e₁ code₁ e₂ code₂
        → Does (emit row KeyOf) 1 0 e₂ code₂ e₃ code₃ → Does (emit row (Match s)) 1 0 e₃ code₃ e₄ code₄ → Does (compile↓ (key_of row key agent)) 7 1 d code₀ e₄ code₄
    key_of_done key agent j k l m =
        does_le (lit≤ tt) (lit≤ tt)
        (does_seq j
        (does_take (λ rˢ. emit row (STORE (scratch rˢ)) then emit row (ENCODE agent) then emit row KEY_OF then emit row (MATCH (scratch rˢ))) taken
        (does_seq (rw (at_first made next) at stored) (does_seq k (does_seq l (rw (at_first made next) at m))))))

    pub hash_done : (h r : ℕ) → Does (emit row (Decode (as_object h))) 1 0 d code₀ e code → Does (emit row (Load (named r))) 1 0 e₁ code₁ e₂ code₂
        → Does (emit row (Hash (as_object h))) 1 0 e₂ code₂ e₃ code₃ → Does (emit row (Match s)) 1 0 e₃ code₃ e₄ code₄ → Does (compile↓ (hash row h r)) 7 1 d code₀ e₄ code₄
    hash_done h r j k l m =
        does_le (lit≤ tt) (lit≤ tt)
        (does_seq j
        (does_take (λ rˢ. emit row (STORE (scratch rˢ)) then emit row (LOAD (named r)) then emit row (HASH h) then emit row (MATCH (scratch rˢ))) taken
        (does_seq (rw (at_first made next) at stored) (does_seq k (does_seq l (rw (at_first made next) at m))))))

  pub verify_certified : (key agent r : ℕ) {e₄ e₅ e₆ : Emission} {code₄ code₅ code₆ : List ℕ} → Does (emit row (Encode (as_object agent))) 1 0 e₁ code₁ e₂ code₂ → Does (emit row KeyOf) 1 0 e₂ code₂ e₃ code₃
      → Does (emit row (Decode (as_object key))) 1 0 e₃ code₃ e₄ code₄ → Does (emit row (Load s)) 1 0 e₄ code₄ e₅ code₅
      → Does (emit row (Verify (as_object key) (named r))) 1 0 e₅ code₅ e₆ code₆ → Does (verifying row (certified_key key agent) r) 6 1 e code e₆ code₆
  verify_certified key agent r k l m n o =
      does_le (lit≤ tt) (lit≤ tt)
      (does_take
      (λ rˢ. emit row (STORE (scratch rˢ)) then emit row (ENCODE agent) then emit row KEY_OF then emit row (DECODE key) then emit row (LOAD (scratch rˢ))
      then emit row (VERIFY key (named r))) taken
      (does_seq (rw (at_first made next) at stored) (does_seq k (does_seq l (does_seq m (does_seq (rw (at_first made next) at n) o))))))

pub ruleset object-ways = (object_set, object_unset)

pub ruleset raw-ways = (raw_set, raw_unset)
