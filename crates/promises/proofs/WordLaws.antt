-- Good words, field by field.
use Prim.Native.Nat.{ℕ, ◌+◌, ◌^◌, ◌<◌, ◌≤◌}
use mathlib.Core.Path.{◌≡◌, refl, sym, ◌∙◌, ap, subst}
use mathlib.Core.Logic.{◌⊎◌, inl, inr}
use mathlib.Core.Bool.{◌&&◌}
use Rattle.std.specs.Prelude.{Option, None, Some}
use mathlib.Core.List.{List, [], ◌∷◌}
use native.Mathlib.Omega.{arith}
use lib.Dec.{T, leb, ltb}
use lib.ListN.{length, get_or}
use borrow.Author.Tests.{lt-ltb}
use Rattle.word.specs.Fields.{join, at}
use Rattle.word.specs.Lowest.{one_of}
use Rattle.word.proofs.FieldLaws.{Fit, split_fits, split_join, join_split, join_below}
use Rattle.word.proofs.All.{All, all_get_d}
use Rattle.word.proofs.TestLaws.{both, at_most}
use Rattle.word.proofs.LowestLaws.{one_all, one_at}
use Rattle.word.proofs.OneOfLaws.{from, one_up_to}
use Rattle.numbers.specs.Sorts.{as_object, as_raw}
use Rattle.numbers.specs.declared.Object.{Object}
use Rattle.code.specs.Instruction.{word_widths, fields_of, word_of, instruction_by, instruction_of}
use Rattle.code.specs.Words.{has_kind, cells_fit, operands_fit}
use Rattle.code.specs.GoodWords as Code
use Rattle.code.specs.declared.Instruction.{Instruction}
use Rattle.code.specs.declared.Instruction.TheVariants.{Load, Store, StoreConst, Decode, Encode, Create, AnalyzeTuple, CreateTuple, Opposite, KeyOf, Match, Encrypt, Decrypt, Sign, Verify, Hash}
use Rattle.code.proofs.WordLaws.{FieldsFit, word_read}
use Rattle.code.proofs.KindLaws.{object_below, cells_below}
use Rattle.promises.specs.Words.{fields, Operands, LOAD, STORE, STORE_CONST, DECODE, ENCODE, CREATE, ANALYZE_TUPLE, CREATE_TUPLE, OPPOSITE, KEY_OF, MATCH, ENCRYPT, DECRYPT, SIGN, VERIFY, HASH, GoodWord, Words}
use Rattle.promises.specs.Words as Words

-- A, B and n of what a word says have room in their fields
abbrev Fitting : Option Instruction → Type 0
Fitting (Some i) = FieldsFit i
Fitting None = Unit {0}

room : (i : Instruction) → at 1 (fields_of i) < 256 → at 2 (fields_of i) < 256 → at 3 (fields_of i) < 8 → FieldsFit i
room i a b n = record { a = a; b = b; n = n }

fits_by : (operation a b n : ℕ) → a < 256 → b < 256 → n < 8 → Fitting (instruction_by operation a b n)
fits_by operation a b n A B N =
    all_get_d Fitting
    (None ∷ None
    ∷ Some (Load (as_raw a)) ∷ Some (Store (as_raw a)) ∷ Some (StoreConst (as_object a) b)
    ∷ Some (Decode (as_object a)) ∷ Some (Encode (as_object a)) ∷ Some (Create (as_object a))
    ∷ Some (AnalyzeTuple (as_object a) (as_raw b) n) ∷ Some (CreateTuple (as_object a) (as_raw b) n)
    ∷ Some (Opposite (as_object a) (as_object b)) ∷ Some KeyOf ∷ Some (Match (as_raw a))
    ∷ Some (Encrypt (as_object a)) ∷ Some (Decrypt (as_object a)) ∷ Some (Sign (as_object a))
    ∷ Some (Verify (as_object a) (as_raw b)) ∷ Some (Hash (as_object a)) ∷ [])
    None (
      tt,
      (
        tt,
        (
          room (Load (as_raw a)) (omega arith) (omega arith) (omega arith),
          (
            room (Store (as_raw a)) (omega arith) (omega arith) (omega arith),
            (
              room (StoreConst (as_object a) b) (omega arith) (omega arith) (omega arith),
              (
                room (Decode (as_object a)) (omega arith) (omega arith) (omega arith),
                (
                  room (Encode (as_object a)) (omega arith) (omega arith) (omega arith),
                  (
                    room (Create (as_object a)) (omega arith) (omega arith) (omega arith),
                    (
                      room (AnalyzeTuple (as_object a) (as_raw b) n) (omega arith) (omega arith) (omega arith),
                      (
                        room (CreateTuple (as_object a) (as_raw b) n) (omega arith) (omega arith) (omega arith),
                        (
                          room (Opposite (as_object a) (as_object b)) (omega arith) (omega arith) (omega arith),
                          (
                            room (KeyOf) (omega arith) (omega arith) (omega arith),
                            (
                              room (Match (as_raw a)) (omega arith) (omega arith) (omega arith),
                              (
                                room (Encrypt (as_object a)) (omega arith) (omega arith) (omega arith),
                                (
                                  room (Decrypt (as_object a)) (omega arith) (omega arith) (omega arith),
                                  (
                                    room (Sign (as_object a)) (omega arith) (omega arith) (omega arith),
                                    (
                                      room (Verify (as_object a) (as_raw b)) (omega arith) (omega arith) (omega arith),
                                      (room (Hash (as_object a)) (omega arith) (omega arith) (omega arith), tt),
                                    ),
                                  ),
                                ),
                              ),
                            ),
                          ),
                        ),
                      ),
                    ),
                  ),
                ),
              ),
            ),
          ),
        ),
      ),
    )
    tt operation

said_fits : (word : ℕ) → Fitting (instruction_of word)
unfolding instruction_of
said_fits word =
    let all = split_fits word_widths word in
    fits_by (at 0 (fields word)) (at 1 (fields word)) (at 2 (fields word)) (at 3 (fields word)) all.1.0 all.1.1.0 all.1.1.1.0

-- an instruction's own word comes apart into its fields
word_fit : (i : Instruction) → FieldsFit i → Fit word_widths (fields_of i)
word_fit (Load r) f = omega arith
word_fit (Store r) f = omega arith
word_fit (StoreConst c b) f = omega arith
word_fit (Decode v) f = omega arith
word_fit (Encode v) f = omega arith
word_fit (Create v) f = omega arith
word_fit (AnalyzeTuple t b n) f = omega arith
word_fit (CreateTuple t b n) f = omega arith
word_fit (Opposite K k) f = omega arith
word_fit KeyOf f = omega arith
word_fit (Match r) f = omega arith
word_fit (Encrypt v) f = omega arith
word_fit (Decrypt v) f = omega arith
word_fit (Sign v) f = omega arith
word_fit (Verify v r) f = omega arith
word_fit (Hash h) f = omega arith

five : (i : Instruction) → length (fields_of i) ≡ 5
five (Load r) = refl
five (Store r) = refl
five (StoreConst c b) = refl
five (Decode v) = refl
five (Encode v) = refl
five (Create v) = refl
five (AnalyzeTuple t b n) = refl
five (CreateTuple t b n) = refl
five (Opposite K k) = refl
five KeyOf = refl
five (Match r) = refl
five (Encrypt v) = refl
five (Decrypt v) = refl
five (Sign v) = refl
five (Verify v r) = refl
five (Hash h) = refl

no_zero_bits : (i : Instruction) → at 4 (fields_of i) ≡ 0
no_zero_bits (Load r) = refl
no_zero_bits (Store r) = refl
no_zero_bits (StoreConst c b) = refl
no_zero_bits (Decode v) = refl
no_zero_bits (Encode v) = refl
no_zero_bits (Create v) = refl
no_zero_bits (AnalyzeTuple t b n) = refl
no_zero_bits (CreateTuple t b n) = refl
no_zero_bits (Opposite K k) = refl
no_zero_bits KeyOf = refl
no_zero_bits (Match r) = refl
no_zero_bits (Encrypt v) = refl
no_zero_bits (Decrypt v) = refl
no_zero_bits (Sign v) = refl
no_zero_bits (Verify v r) = refl
no_zero_bits (Hash h) = refl

own_fields : (i : Instruction) → FieldsFit i → fields (word_of i) ≡ fields_of i
unfolding word_of
own_fields i f = split_join word_widths (fields_of i) (word_fit i f) (five i)

own_below : (i : Instruction) → FieldsFit i → word_of i < 2 ^ 32
unfolding word_of
own_below i f = join_below word_widths (fields_of i) (word_fit i f)

module _ (kind : ℕ → ℕ) where
  -- a test of kinds, and the kinds
  has : (P : ℕ → Type 0) (kinds : List ℕ) (v : Object) → All P kinds → T (has_kind kind v kinds) → Words.Object kind v.0 P
  has P kinds v all h = (let low = object_below kind v kinds h in omega arith, one_all P kinds (kind v.0) all ((both (ltb v.0 64) (one_of kinds (kind v.0))).0 h).1)

  to_operands : (i : Instruction) → T (operands_fit kind i) → Operands kind (at 0 (fields_of i)) (at 1 (fields_of i)) (at 2 (fields_of i)) (at 3 (fields_of i))
  to_operands (Load r) h = LOAD
  to_operands (Store r) h = STORE
  to_operands (StoreConst c b) h = STORE_CONST (has (λ k. k ≡ 1) (1 ∷ []) c (refl, tt) h)
  to_operands (Decode v) h = DECODE (has (λ k. (1 ≤ k) × (k ≤ 10)) (from 1 10) v (omega arith) h)
  to_operands (Encode v) h = ENCODE (has (λ k. (1 ≤ k) × (k ≤ 10)) (from 1 10) v (omega arith) h)
  to_operands (Create v) h = CREATE (has (λ k. (k ≡ 2) ⊎ (k ≡ 5) ⊎ (k ≡ 6)) (2 ∷ 5 ∷ 6 ∷ []) v (inl refl, (inr (inl refl), (inr (inr refl), tt))) h)
  to_operands (AnalyzeTuple t b n) h =
      let two = (both (has_kind kind t (10 ∷ [])) (cells_fit b n)).0 h in
      let cells = cells_below b n two.1 in
      ANALYZE_TUPLE (has (λ k. k ≡ 10) (10 ∷ []) t (refl, tt) two.0) cells.0 cells.1
  to_operands (CreateTuple t b n) h =
      let two = (both (has_kind kind t (10 ∷ [])) (cells_fit b n)).0 h in
      let cells = cells_below b n two.1 in
      CREATE_TUPLE (has (λ k. k ≡ 10) (10 ∷ []) t (refl, tt) two.0) cells.0 cells.1
  to_operands (Opposite K k) h =
      let two = (both (has_kind kind K (5 ∷ [])) (has_kind kind k (4 ∷ []))).0 h in
      OPPOSITE (has (λ n. n ≡ 5) (5 ∷ []) K (refl, tt) two.0) (has (λ n. n ≡ 4) (4 ∷ []) k (refl, tt) two.1)
  to_operands KeyOf h = KEY_OF
  to_operands (Match r) h = MATCH
  to_operands (Encrypt v) h = ENCRYPT (has (λ k. (k ≡ 4) ⊎ (k ≡ 6)) (4 ∷ 6 ∷ []) v (inl refl, (inr refl, tt)) h)
  to_operands (Decrypt v) h = DECRYPT (has (λ k. (k ≡ 5) ⊎ (k ≡ 6)) (5 ∷ 6 ∷ []) v (inl refl, (inr refl, tt)) h)
  to_operands (Sign v) h = SIGN (has (λ k. (k ≡ 5) ⊎ (k ≡ 6)) (5 ∷ 6 ∷ []) v (inl refl, (inr refl, tt)) h)
  to_operands (Verify v r) h = VERIFY (has (λ k. (k ≡ 4) ⊎ (k ≡ 6)) (4 ∷ 6 ∷ []) v (inl refl, (inr refl, tt)) h)
  to_operands (Hash v) h = HASH (has (λ k. k ≡ 9) (9 ∷ []) v (refl, tt) h)

  spelled : {word : ℕ} → Code.GoodWord kind word → GoodWord kind word
  spelled {word} g =
      let fit : FieldsFit g.instruction = subst Fitting g.says (said_fits word) in
      let apart : fields word ≡ fields_of g.instruction = ap fields (sym g.own) ∙ own_fields g.instruction fit in
      record {
        bits = subst (λ w. w < 2 ^ 32) g.own (own_below g.instruction fit);
        operands = subst (λ f. Operands kind (at 0 f) (at 1 f) (at 2 f) (at 3 f)) (sym apart) (to_operands g.instruction g.operands);
        low = ap (at 4) apart ∙ no_zero_bits g.instruction;
      }

  -- and back: the word is its fields put together
  says_so : (word : ℕ) (i : Instruction) → FieldsFit i → T (operands_fit kind i) → join word_widths (fields_of i) ≡ word → Code.GoodWord kind word
  unfolding word_of
  says_so word i fit h own = record { instruction = i; says = ap instruction_of (sym own) ∙ word_read i fit; own = own; operands = h }

  like : (v : ℕ) (kinds : List ℕ) (i : ℕ) → v ≤ 63 → i < length kinds → kind v ≡ get_or kinds i 0 → T (has_kind kind (as_object v) kinds)
  like v kinds i low inside e = rw (lt-ltb v 64 (omega arith), e) (one_at kinds i inside)

  one_kind : {v k : ℕ} → Words.Object kind v (λ n. n ≡ k) → T (has_kind kind (as_object v) (k ∷ []))
  one_kind {v} {k} (low, e) = like v (k ∷ []) 0 low (omega arith) e

  two_kinds : {v j k : ℕ} → Words.Object kind v (λ n. (n ≡ j) ⊎ (n ≡ k)) → T (has_kind kind (as_object v) (j ∷ k ∷ []))
  two_kinds {v} {j} {k} (low, inl e) = like v (j ∷ k ∷ []) 0 low (omega arith) e
  two_kinds {v} {j} {k} (low, inr e) = like v (j ∷ k ∷ []) 1 low (omega arith) e

  created : {v : ℕ} → Words.Object kind v (λ n. (n ≡ 2) ⊎ (n ≡ 5) ⊎ (n ≡ 6)) → T (has_kind kind (as_object v) (2 ∷ 5 ∷ 6 ∷ []))
  created {v} (low, inl e) = like v (2 ∷ 5 ∷ 6 ∷ []) 0 low (omega arith) e
  created {v} (low, inr (inl e)) = like v (2 ∷ 5 ∷ 6 ∷ []) 1 low (omega arith) e
  created {v} (low, inr (inr e)) = like v (2 ∷ 5 ∷ 6 ∷ []) 2 low (omega arith) e

  any_kind : {v : ℕ} → Words.Object kind v (λ n. (1 ≤ n) × (n ≤ 10)) → T (has_kind kind (as_object v) (from 1 10))
  any_kind {v} (low, (least, most)) = rw (lt-ltb v 64 (omega arith), ← (one_up_to 1 10 (kind v) least), lt-ltb (kind v) 11 (omega arith)) tt

  some_cells : {t : ℕ} (b n : ℕ) → Words.Object kind t (λ k. k ≡ 10) → n ≤ 4 → b + n ≤ 256 → T (has_kind kind (as_object t) (10 ∷ []) && cells_fit (as_raw b) n)
  some_cells {t} b n o few within =
      (both (has_kind kind (as_object t) (10 ∷ [])) (cells_fit (as_raw b) n)).1 (one_kind o, (both (leb n 4) (leb (b + n) 256)).1 ((at_most n 4).1 few, (at_most (b + n) 256).1 within))

  from_operands : {operation a b n : ℕ} (word : ℕ) → Operands kind operation a b n → a < 256 → b < 256 → n < 8
      → join word_widths (operation ∷ a ∷ b ∷ n ∷ 0 ∷ []) ≡ word → Code.GoodWord kind word
  from_operands {a = a} word LOAD A B N e = says_so word (Load (as_raw a)) (record { a = A; b = B; n = N }) tt e
  from_operands {a = a} word STORE A B N e = says_so word (Store (as_raw a)) (record { a = A; b = B; n = N }) tt e
  from_operands {a = a} {b = b} word (STORE_CONST o) A B N e = says_so word (StoreConst (as_object a) b) (record { a = A; b = B; n = N }) (one_kind o) e
  from_operands {a = a} word (DECODE o) A B N e = says_so word (Decode (as_object a)) (record { a = A; b = B; n = N }) (any_kind o) e
  from_operands {a = a} word (ENCODE o) A B N e = says_so word (Encode (as_object a)) (record { a = A; b = B; n = N }) (any_kind o) e
  from_operands {a = a} word (CREATE o) A B N e = says_so word (Create (as_object a)) (record { a = A; b = B; n = N }) (created o) e
  from_operands {a = a} {b = b} {n = n} word (ANALYZE_TUPLE o few within) A B N e =
      says_so word (AnalyzeTuple (as_object a) (as_raw b) n) (record { a = A; b = B; n = N }) (some_cells b n o few within) e
  from_operands {a = a} {b = b} {n = n} word (CREATE_TUPLE o few within) A B N e =
      says_so word (CreateTuple (as_object a) (as_raw b) n) (record { a = A; b = B; n = N }) (some_cells b n o few within) e
  from_operands {a = a} {b = b} word (OPPOSITE K k) A B N e =
      says_so word (Opposite (as_object a) (as_object b)) (record { a = A; b = B; n = N })
      ((both (has_kind kind (as_object a) (5 ∷ [])) (has_kind kind (as_object b) (4 ∷ []))).1 (one_kind K, one_kind k)) e
  from_operands word KEY_OF A B N e = says_so word KeyOf (record { a = A; b = B; n = N }) tt e
  from_operands {a = a} word MATCH A B N e = says_so word (Match (as_raw a)) (record { a = A; b = B; n = N }) tt e
  from_operands {a = a} word (ENCRYPT o) A B N e = says_so word (Encrypt (as_object a)) (record { a = A; b = B; n = N }) (two_kinds o) e
  from_operands {a = a} word (DECRYPT o) A B N e = says_so word (Decrypt (as_object a)) (record { a = A; b = B; n = N }) (two_kinds o) e
  from_operands {a = a} word (SIGN o) A B N e = says_so word (Sign (as_object a)) (record { a = A; b = B; n = N }) (two_kinds o) e
  from_operands {a = a} {b = b} word (VERIFY o) A B N e = says_so word (Verify (as_object a) (as_raw b)) (record { a = A; b = B; n = N }) (two_kinds o) e
  from_operands {a = a} word (HASH o) A B N e = says_so word (Hash (as_object a)) (record { a = A; b = B; n = N }) (one_kind o) e

  said : {word : ℕ} → GoodWord kind word → Code.GoodWord kind word
  said {word} g =
      let all = split_fits word_widths word in
      from_operands word g.operands all.1.0 all.1.1.0 all.1.1.1.0
      (ap (λ z. join word_widths (at 0 (fields word) ∷ at 1 (fields word) ∷ at 2 (fields word) ∷ at 3 (fields word) ∷ z ∷ [])) (sym g.low) ∙ join_split word_widths word g.bits)

pub words : Words
words = record { good = λ kind word. (spelled kind, said kind) }
