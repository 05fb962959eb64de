-- Packed rows, tag by tag.
use Prim.Native.Nat.{ℕ, zero, suc, ◌+◌, ◌*◌, ◌%◌, ◌^◌, ◌<◌, ◌≤◌}
use mathlib.Core.Path.{◌≡◌, refl, sym, ◌∙◌, ap, subst}
use mathlib.Core.List.{List, [], ◌∷◌}
use native.Mathlib.Omega.{arith}
use lib.ListN.{length, take, drop, length-take, replicate}
use Rattle.word.specs.Fields.{split, join, at}
use Rattle.word.proofs.All.{All}
use Rattle.word.proofs.FieldLaws.{Fit, fit_equal, padded, split_join_padded, join_below, join_split}
use Rattle.terms.specs.Shape.{Shape, atom, tupled}
use Rattle.terms.specs.Row.{term_widths, row_of, tag_of, shape_of}
use Rattle.terms.proofs.ShapeLaws.{field, slots_of, number_of, shape_encrypted, shape_signed, shape_hashed, shape_tupled, shape_atom, by_tag}
use Rattle.terms.proofs.FieldLaws.{slot_below}
use Rattle.promises.specs.Rows.{AllZero, PackedRow, Rows}

not_above : (tag : ℕ) → (7 ≤ tag → ⊥) → tag ≤ 6
not_above tag n = omega arith

-- the word of a tuple of the first n of four parts, where the rest are zero
tuple_sum : (n a b c d : ℕ) → n ≤ 4 → AllZero (drop n (a ∷ b ∷ c ∷ d ∷ []))
    → row_of (tupled (take n (a ∷ b ∷ c ∷ d ∷ []))) ≡ 10 * 2 ^ 60 + n * 2 ^ 56 + a * 2 ^ 36 + b * 2 ^ 24 + c * 2 ^ 12 + d
unfolding row_of
tuple_sum zero a b c d few (A, (B, (C, (D, _)))) = omega arith
tuple_sum (suc zero) a b c d few (B, (C, (D, _))) = omega arith
tuple_sum (suc (suc zero)) a b c d few (C, (D, _)) = omega arith
tuple_sum (suc (suc (suc zero))) a b c d few (D, _) = omega arith
tuple_sum (suc (suc (suc (suc zero)))) a b c d few rest = omega arith
tuple_sum (suc (suc (suc (suc (suc n))))) a b c d few rest = absurd (omega arith)

hash_sum : (tag n z a b c d : ℕ) → tag ≡ 9 → n ≡ 0 → z ≡ 0 → b ≡ 0 → c ≡ 0 → d ≡ 0
    → join term_widths (9 ∷ 0 ∷ 0 ∷ a ∷ []) ≡ join term_widths (tag ∷ n ∷ z ∷ a ∷ b ∷ c ∷ d ∷ [])
hash_sum tag n z a b c d t N Z B C D = omega arith

module _ (word : ℕ) where
  abbrev Equals : Shape ℕ → Type 0
  Equals shape = row_of shape ≡ word

  spread : word < 2 ^ 64 → join term_widths (split term_widths word) ≡ word
  spread bits = join_split term_widths word bits

  -- one equation, and the fields
  number_to : (1 ≤ tag_of word) → (tag_of word ≤ 6) → row_of (atom (tag_of word) (number_of word)) ≡ word → (word < 2 ^ 64) × (word % 2 ^ 60 < 2 ^ 16)
  unfolding row_of tag_of
  number_to low high e = omega arith

  number_from : word < 2 ^ 64 → word % 2 ^ 60 < 2 ^ 16 → row_of (atom (tag_of word) (number_of word)) ≡ word
  unfolding row_of tag_of
  number_from bits h = omega arith

  -- a row that is its fields put together has no others
  apart : (values : List ℕ) → Fit term_widths values → join term_widths values ≡ word → (word < 2 ^ 64) × (split term_widths word ≡ padded term_widths values)
  apart values fit e = (subst (λ w. w < 2 ^ 64) e (join_below term_widths values fit), ap (split term_widths) (sym e) ∙ split_join_padded term_widths values fit)

  part_fits : (slot : ℕ) → at slot (slots_of word) < 2 ^ 12
  part_fits slot = slot_below word slot

  pair_to : (tag : ℕ) → tag < 16 → join term_widths (tag ∷ 0 ∷ 0 ∷ field 3 word ∷ field 4 word ∷ []) ≡ word
      → (word < 2 ^ 64) × (field 1 word ≡ 0) × (field 2 word ≡ 0) × (field 5 word ≡ 0) × (field 6 word ≡ 0)
  pair_to tag low e =
      let it = apart (tag ∷ 0 ∷ 0 ∷ field 3 word ∷ field 4 word ∷ []) (low, (omega arith, (omega arith, (part_fits 0, (part_fits 1, tt))))) e in
      (it.0, ap (at 1) it.1, ap (at 2) it.1, ap (at 5) it.1, ap (at 6) it.1)

  hash_to : join term_widths (9 ∷ 0 ∷ 0 ∷ field 3 word ∷ []) ≡ word
      → (word < 2 ^ 64) × (field 1 word ≡ 0) × (field 2 word ≡ 0) × (field 4 word ≡ 0) × (field 5 word ≡ 0) × (field 6 word ≡ 0)
  hash_to e =
      let it = apart (9 ∷ 0 ∷ 0 ∷ field 3 word ∷ []) (omega arith, (omega arith, (omega arith, (part_fits 0, tt)))) e in
      (it.0, ap (at 1) it.1, ap (at 2) it.1, ap (at 4) it.1, ap (at 5) it.1, ap (at 6) it.1)

  -- a tuple's n is at most 4, as it has no more parts
  abbrev taken : List ℕ
  taken = take (field 1 word) (slots_of word)

  taken_fit : Fit term_widths (10 ∷ length taken ∷ 0 ∷ taken)
  taken_fit = (
    omega arith,
    (
      omega (arith, length-take (field 1 word) (slots_of word)),
      (
        omega arith,
        fit_equal 12 4 taken (omega (arith, length-take (field 1 word) (slots_of word))) (all_taken (field 1 word) (slots_of word) (part_fits 0, (part_fits 1, (part_fits 2, (part_fits 3, tt))))),
      ),
    ),
  )
    where
      all_taken : (n : ℕ) (parts : List ℕ) → All (λ part. part < 2 ^ 12) parts → All (λ part. part < 2 ^ 12) (take n parts)
      all_taken zero parts h = tt
      all_taken (suc n) [] h = tt
      all_taken (suc n) (a ∷ parts) h = (h.0, all_taken n parts h.1)

  -- what stands past what was taken
  past : (n : ℕ) (widths parts : List ℕ) → length parts ≡ length widths → parts ≡ padded widths (take n parts) → AllZero (drop n parts)
  past zero [] [] same e = tt
  past zero [] (part ∷ parts) same e = absurd (omega arith)
  past zero (width ∷ widths) [] same e = absurd (omega arith)
  past zero (width ∷ widths) (part ∷ parts) same e = (ap (at 0) e, past zero widths parts (omega arith) (ap (drop 1) e))
  past (suc n) [] [] same e = tt
  past (suc n) [] (part ∷ parts) same e = absurd (omega arith)
  past (suc n) (width ∷ widths) [] same e = absurd (omega arith)
  past (suc n) (width ∷ widths) (part ∷ parts) same e = past n widths parts (omega arith) (ap (drop 1) e)

  tuple_to : join term_widths (10 ∷ length taken ∷ 0 ∷ taken) ≡ word → (word < 2 ^ 64) × (field 1 word ≤ 4) × (field 2 word ≡ 0) × AllZero (drop (field 1 word) (slots_of word))
  tuple_to e =
      let it = apart (10 ∷ length taken ∷ 0 ∷ taken) taken_fit e in
      let count : field 1 word ≡ length taken = ap (at 1) it.1 in
      (it.0, omega (arith, length-take (field 1 word) (slots_of word)), ap (at 2) it.1, past (field 1 word) (replicate 4 12) (slots_of word) refl (ap (drop 3) it.1))

  -- and back
  pair_from : (tag : ℕ) → word < 2 ^ 64 → field 0 word ≡ tag → (field 1 word ≡ 0) × (field 2 word ≡ 0) × AllZero (drop 2 (slots_of word))
      → join term_widths (tag ∷ 0 ∷ 0 ∷ field 3 word ∷ field 4 word ∷ []) ≡ word
  pair_from tag bits is (n, z, (c, (d, _))) = omega (arith, spread bits)

  hash_from : word < 2 ^ 64 → field 0 word ≡ 9 → (field 1 word ≡ 0) × (field 2 word ≡ 0) × AllZero (drop 1 (slots_of word))
      → join term_widths (9 ∷ 0 ∷ 0 ∷ field 3 word ∷ []) ≡ word
  hash_from bits is (n, z, (b, (c, (d, _)))) =
      hash_sum (field 0 word) (field 1 word) (field 2 word) (field 3 word) (field 4 word) (field 5 word) (field 6 word) is n z b c d ∙ spread bits

  tuple_from : word < 2 ^ 64 → field 0 word ≡ 10 → (field 1 word ≤ 4) × (field 2 word ≡ 0) × AllZero (drop (field 1 word) (slots_of word))
      → row_of (tupled taken) ≡ word
  tuple_from bits is (few, z, rest) = tuple_sum (field 1 word) (field 3 word) (field 4 word) (field 5 word) (field 6 word) few rest ∙ omega (arith, spread bits)

  to_packed : (1 ≤ tag_of word) × (tag_of word ≤ 10) × (row_of (shape_of word) ≡ word) → PackedRow word
  unfolding tag_of row_of
  to_packed (low, high, e) =
      record {
        bits = by_tag word (λ shape. Equals shape → word < 2 ^ 64) (λ _ e. (pair_to 7 (omega arith) e).0) (λ _ e. (pair_to 8 (omega arith) e).0) (λ _ e. (hash_to e).0) (λ _ e. (tuple_to e).0)
            (λ plain e. (number_to low (not_above (tag_of word) λ above. plain above (omega arith)) e).0) e;
        known = (low, high);
        number = λ small. (number_to low small (ap row_of (sym (shape_atom word λ least most. omega arith)) ∙ e)).1;
        encryption = λ is. let f = pair_to 7 (omega arith) (ap row_of (sym (shape_encrypted word is)) ∙ e) in (f.1, f.2, (f.3, (f.4, tt)));
        signature = λ is. let f = pair_to 8 (omega arith) (ap row_of (sym (shape_signed word is)) ∙ e) in (f.1, f.2, (f.3, (f.4, tt)));
        hash = λ is. let f = hash_to (ap row_of (sym (shape_hashed word is)) ∙ e) in (f.1, f.2, (f.3, (f.4, (f.5, tt))));
        tuple = λ is. let f = tuple_to (ap row_of (sym (shape_tupled word is)) ∙ e) in (f.1, f.2, f.3);
      }

  from_packed : PackedRow word → (1 ≤ tag_of word) × (tag_of word ≤ 10) × (row_of (shape_of word) ≡ word)
  unfolding tag_of row_of
  from_packed p = (
    p.known.0,
    p.known.1,
    by_tag word Equals (λ is. pair_from 7 p.bits is (p.encryption is)) (λ is. pair_from 8 p.bits is (p.signature is)) (λ is. hash_from p.bits is (p.hash is))
        (λ is. tuple_from p.bits is (p.tuple is))
        (λ plain. number_from p.bits (p.number (not_above (tag_of word) λ above. plain above (omega arith)))),
  )

pub rows : Rows
rows = record { packed = λ word. (to_packed word, from_packed word) }
