-- Figures 5 and 6, a clause a row, with document 01's amendments.
use Rattle.std.specs.Prelude.{ℕ, suc, cond, []}
use Rattle.answers.specs.declared.Compiled.TheVariants.{WrongKind, ReadWhileUnset}
use Rattle.numbers.specs.Sorts.{as_object}
use Rattle.numbers.specs.declared.Raw.{Raw}
use Rattle.code.specs.declared.Instruction.{Instruction}
use Rattle.code.specs.declared.Instruction.TheVariants.{Load, Store, StoreConst, Decode, Encode, Create, AnalyzeTuple, CreateTuple, Opposite, KeyOf, Match, Encrypt, Decrypt, Sign, Verify, Hash}
use Rattle.patterns.specs.Pattern.{Key, plain_key, op_key, certified_key, Pattern, object, raw, constant, opposite, key_of, encryption, signature, hash, tuple, let_in, Parts, end, part, count}
use Rattle.theory.specs.World.{creatable}
use Rattle.theory.specs.Machine.{named, scratch}
use Rattle.theory.specs.Emission.{Env, raw_cell, Emitted, ok, refuse, emit, take, writes, ◌then◌}

-- the paper's names of the instructions
abbrev pub LOAD : Raw → Instruction
LOAD r = Load r

abbrev pub STORE : Raw → Instruction
STORE r = Store r

abbrev pub STORE_CONST : ℕ → ℕ → Instruction
STORE_CONST c b = StoreConst (as_object c) b

abbrev pub DECODE : ℕ → Instruction
DECODE v = Decode (as_object v)

abbrev pub ENCODE : ℕ → Instruction
ENCODE v = Encode (as_object v)

abbrev pub CREATE : ℕ → Instruction
CREATE v = Create (as_object v)

abbrev pub ANALYZE_TUPLE : ℕ → Raw → ℕ → Instruction
ANALYZE_TUPLE t b n = AnalyzeTuple (as_object t) b n

abbrev pub CREATE_TUPLE : ℕ → Raw → ℕ → Instruction
CREATE_TUPLE t b n = CreateTuple (as_object t) b n

abbrev pub OPPOSITE : ℕ → ℕ → Instruction
OPPOSITE K k = Opposite (as_object K) (as_object k)

abbrev pub KEY_OF : Instruction
KEY_OF = KeyOf

abbrev pub MATCH : Raw → Instruction
MATCH r = Match r

abbrev pub ENCRYPT : ℕ → Instruction
ENCRYPT v = Encrypt (as_object v)

abbrev pub DECRYPT : ℕ → Instruction
DECRYPT v = Decrypt (as_object v)

abbrev pub SIGN : ℕ → Instruction
SIGN v = Sign (as_object v)

abbrev pub VERIFY : ℕ → Raw → Instruction
VERIFY v r = Verify (as_object v) r

abbrev pub HASH : ℕ → Instruction
HASH h = Hash (as_object h)

-- Figure 5. The key of a matched S, and what it verifies
abbrev pub verifying : ℕ → Key → ℕ → Env → Emitted
verifying row (plain_key vk) r = emit row (VERIFY vk (named r))
verifying row (op_key k K) r = emit row (OPPOSITE K k) then emit row (VERIFY k (named r))
verifying row (certified_key k a) r =
    take 1 λ rˢ.
    emit row (STORE (scratch rˢ)) then emit row (ENCODE a) then emit row KEY_OF then emit row (DECODE k) then emit row (LOAD (scratch rˢ))
    then emit row (VERIFY k (named r))

abbrev mutual
  pub compile↓ : Pattern → Env → Emitted
  compile↓ (object row v) = λ e.
      cond (e.objects v)
      ((take 1 λ rˢ. emit row (STORE (scratch rˢ)) then emit row (ENCODE v) then emit row (MATCH (scratch rˢ))) e)
      (emit row (DECODE v) e)
  compile↓ (raw row r) = λ e. cond (e.raws r) (emit row (MATCH (named r)) e) (emit row (STORE (named r)) e)
  compile↓ (constant row c b) =
      take 1 λ rˢ. emit row (STORE (scratch rˢ)) then emit row (STORE_CONST c b) then emit row (ENCODE c) then emit row (MATCH (scratch rˢ))
  compile↓ (opposite row k K) =
      take 1 λ rˢ. emit row (STORE (scratch rˢ)) then emit row (OPPOSITE K k) then emit row (ENCODE k) then emit row (MATCH (scratch rˢ))
  compile↓ (key_of row k a) =
      emit row (DECODE k) then take 1 λ rˢ.
      emit row (STORE (scratch rˢ)) then emit row (ENCODE a) then emit row KEY_OF then emit row (MATCH (scratch rˢ))
  compile↓ (encryption row e (plain_key dk) p) = emit row (DECODE e) then emit row (DECRYPT dk) then compile↓ p
  compile↓ (encryption row e (op_key k K) p) = λ _. refuse (WrongKind row)
  compile↓ (encryption row e (certified_key k a) p) = λ _. refuse (WrongKind row)
  compile↓ (signature row s key r) = emit row (DECODE s) then verifying row key r
  compile↓ (hash row h r) =
      emit row (DECODE h) then take 1 λ rˢ.
      emit row (STORE (scratch rˢ)) then emit row (LOAD (named r)) then emit row (HASH h) then emit row (MATCH (scratch rˢ))
  compile↓ (tuple row t ps) =
      emit row (DECODE t) then take (count ps) λ rˢ. emit row (ANALYZE_TUPLE t (scratch rˢ) (count ps)) then compile↓parts ps row rˢ
  compile↓ (let_in row r p₁ p₂) = λ e. writes row (e.raws r) ((compile↓ p₂ then emit row (LOAD (named r)) then compile↓ p₁) e)

  pub compile↓parts : Parts → ℕ → ℕ → Env → Emitted
  compile↓parts end row rˢ = ok []
  compile↓parts (part p ps) row rˢ = emit row (LOAD (scratch rˢ)) then compile↓ p then compile↓parts ps row (suc rˢ)

-- Figure 6. A raw variable comes from its cell, or goes to it
abbrev pub load_raw : ℕ → ℕ → Env → Emitted
load_raw row r e = emit row (LOAD (raw_cell e r)) e

abbrev pub store_raw : ℕ → ℕ → Env → Emitted
store_raw row r e = emit row (STORE (raw_cell e r)) e

abbrev pub key_var : Key → ℕ
key_var (plain_key v) = v
key_var (op_key k K) = k
key_var (certified_key k a) = k

module _ (kind : ℕ → ℕ) where
  -- a variable that is set, or a creatable one that gets its CREATE
  abbrev pub creating : ℕ → ℕ → Env → Emitted
  creating row v e = cond (e.objects v) (ok [] e) (cond (creatable (kind v)) (emit row (CREATE v) e) (refuse (ReadWhileUnset row)))

  abbrev pub compile↑K : ℕ → Key → Env → Emitted
  compile↑K row (plain_key v) = creating row v
  compile↑K row (op_key k K) = creating row K then emit row (OPPOSITE K k)
  compile↑K row (certified_key k a) = emit row (ENCODE a) then emit row KEY_OF then emit row (DECODE k)

  abbrev mutual
    pub compile↑ : Pattern → Env → Emitted
    compile↑ (object row v) = creating row v then emit row (ENCODE v)
    compile↑ (raw row r) = load_raw row r
    compile↑ (constant row c b) = emit row (STORE_CONST c b) then emit row (ENCODE c)
    compile↑ (opposite row k K) = compile↑K row (op_key k K) then emit row (ENCODE k)
    compile↑ (key_of row k a) = compile↑K row (certified_key k a)
    compile↑ (encryption row e key p) = compile↑K row key then compile↑ p then emit row (ENCRYPT (key_var key)) then emit row (DECODE e)
    compile↑ (signature row s key r) =
        compile↑K row key then load_raw row r then emit row (SIGN (key_var key)) then emit row (DECODE s)
    compile↑ (hash row h r) = load_raw row r then emit row (HASH h) then emit row (DECODE h)
    compile↑ (tuple row t ps) =
        take (count ps) λ rˢ. compile↑parts ps row rˢ then emit row (CREATE_TUPLE t (scratch rˢ) (count ps)) then emit row (ENCODE t)
    compile↑ (let_in row r p₁ p₂) = compile↑ p₁ then store_raw row r then compile↑ p₂

    pub compile↑parts : Parts → ℕ → ℕ → Env → Emitted
    compile↑parts end row rˢ = ok []
    compile↑parts (part p ps) row rˢ = compile↑ p then emit row (STORE (scratch rˢ)) then compile↑parts ps row (suc rˢ)
