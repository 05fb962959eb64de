-- Refusal 9, word by word, over the packed fields of a word: operation 5, A 8, B 8, n 3, zero 8.
use Rattle.std.specs.Prelude.{ℕ, ◌+◌, ◌^◌, ◌<◌, ◌≤◌, ◌≡◌, ◌↔◌, ◌⊎◌, List, [], ◌∷◌}
use Rattle.word.specs.Fields.{split, at}
use Rattle.code.specs.GoodWords as Code

abbrev pub fields : ℕ → List ℕ
fields word = split (5 ∷ 8 ∷ 8 ∷ 3 ∷ 8 ∷ []) word

module _ (kind : ℕ → ℕ) where
  -- an object number is at most 63, and its variable has a kind that figure 4 wants
  abbrev pub Object : ℕ → (ℕ → Type 0) → Type 0
  Object v Wanted = (v ≤ 63) × Wanted (kind v)

  -- operation, A, B and n; a field that an operation does not use is zero
  pub data Operands : ℕ → ℕ → ℕ → ℕ → Type 0 where
    LOAD : {r : ℕ} → Operands 2 r 0 0
    STORE : {r : ℕ} → Operands 3 r 0 0
    STORE_CONST : {c b : ℕ} → Object c (λ k. k ≡ 1) → Operands 4 c b 0
    DECODE : {v : ℕ} → Object v (λ k. (1 ≤ k) × (k ≤ 10)) → Operands 5 v 0 0
    ENCODE : {v : ℕ} → Object v (λ k. (1 ≤ k) × (k ≤ 10)) → Operands 6 v 0 0
    CREATE : {v : ℕ} → Object v (λ k. (k ≡ 2) ⊎ (k ≡ 5) ⊎ (k ≡ 6)) → Operands 7 v 0 0
    -- n consecutive message cells from B on
    ANALYZE_TUPLE : {t b n : ℕ} → Object t (λ k. k ≡ 10) → n ≤ 4 → b + n ≤ 256 → Operands 8 t b n
    CREATE_TUPLE : {t b n : ℕ} → Object t (λ k. k ≡ 10) → n ≤ 4 → b + n ≤ 256 → Operands 9 t b n
    OPPOSITE : {K k : ℕ} → Object K (λ k. k ≡ 5) → Object k (λ k. k ≡ 4) → Operands 10 K k 0
    KEY_OF : Operands 11 0 0 0
    MATCH : {r : ℕ} → Operands 12 r 0 0
    ENCRYPT : {v : ℕ} → Object v (λ k. (k ≡ 4) ⊎ (k ≡ 6)) → Operands 13 v 0 0
    DECRYPT : {v : ℕ} → Object v (λ k. (k ≡ 5) ⊎ (k ≡ 6)) → Operands 14 v 0 0
    SIGN : {v : ℕ} → Object v (λ k. (k ≡ 5) ⊎ (k ≡ 6)) → Operands 15 v 0 0
    VERIFY : {v r : ℕ} → Object v (λ k. (k ≡ 4) ⊎ (k ≡ 6)) → Operands 16 v r 0
    HASH : {h : ℕ} → Object h (λ k. k ≡ 9) → Operands 17 h 0 0

  pub record GoodWord (word : ℕ) : Type 0 where
    pub bits : word < 2 ^ 32
    pub operands : Operands (at 0 (fields word)) (at 1 (fields word)) (at 2 (fields word)) (at 3 (fields word))
    pub low : at 4 (fields word) ≡ 0

-- and that is what run holds a word to
pub record Words : Type 0 where
  pub good : (kind : ℕ → ℕ) (word : ℕ) → Code.GoodWord kind word ↔ GoodWord kind word
