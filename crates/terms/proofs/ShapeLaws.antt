-- The shape of a row by its tag.
use Prim.Native.Nat.{ℕ, zero, suc, ◌+◌, ◌<◌, ◌≤◌, min}
use mathlib.Core.Path.{◌≡◌, refl, sym, ◌∙◌, ap}
use mathlib.Core.List.{List, [], ◌∷◌}
use native.Mathlib.Decide.{ℕ_discrete}
use native.Mathlib.Omega.{arith}
use lib.ListN.{length, get_or, take, drop}
use Rattle.std.proofs.lemmas.List.{length-take}
use lib.Seq.{get_or-take, get_or-drop}
use borrow.Author.Tests.{ne_eqb}
use Rattle.word.specs.Fields.{split, at}
use Rattle.terms.specs.Shape.{Shape, atom, encrypted, signed, hashed, tupled, parts_of}
use Rattle.terms.specs.Row.{term_widths, atom_widths, tag_of, shape_of}

-- short names for what a row's word holds
abbrev pub field : ℕ → ℕ → ℕ
field place word = at place (split term_widths word)

abbrev pub slots_of : ℕ → List ℕ
slots_of word = drop 3 (split term_widths word)

abbrev pub number_of : ℕ → ℕ
number_of word = at 2 (split atom_widths word)

-- a tag whose rows have no parts
abbrev pub Plain : ℕ → Type 0
Plain tag = 7 ≤ tag → tag < 11 → ⊥

take_taken : (n : ℕ) (all : List ℕ) → take (length (take n all)) all ≡ take n all
take_taken zero all = refl
take_taken (suc n) [] = refl
take_taken (suc n) (a ∷ all) = ap (λ (rest : List ℕ). a ∷ rest) (take_taken n all)

module _ (word : ℕ) where
  pub shape_encrypted : tag_of word ≡ 7 → shape_of word ≡ encrypted (field 3 word) (field 4 word)
  unfolding shape_of
  shape_encrypted e = rw e

  pub shape_signed : tag_of word ≡ 8 → shape_of word ≡ signed (field 3 word) (field 4 word)
  unfolding shape_of
  shape_signed e = rw e

  pub shape_hashed : tag_of word ≡ 9 → shape_of word ≡ hashed (field 3 word)
  unfolding shape_of
  shape_hashed e = rw e

  pub shape_tupled : tag_of word ≡ 10 → shape_of word ≡ tupled (take (field 1 word) (slots_of word))
  unfolding shape_of
  shape_tupled e = rw e

  pub shape_atom : Plain (tag_of word) → shape_of word ≡ atom (tag_of word) (number_of word)
  unfolding shape_of
  shape_atom plain =
      rw (
        ne_eqb (tag_of word) 7 (λ e. plain (omega arith) (omega arith)),
        ne_eqb (tag_of word) 8 (λ e. plain (omega arith) (omega arith)),
        ne_eqb (tag_of word) 9 (λ e. plain (omega arith) (omega arith)),
        ne_eqb (tag_of word) 10 (λ e. plain (omega arith) (omega arith)),
      )

  -- what holds of each shape that a row can have holds of its own
  pub by_tag : (P : Shape ℕ → Type 0)
      → (tag_of word ≡ 7 → P (encrypted (field 3 word) (field 4 word)))
      → (tag_of word ≡ 8 → P (signed (field 3 word) (field 4 word)))
      → (tag_of word ≡ 9 → P (hashed (field 3 word)))
      → (tag_of word ≡ 10 → P (tupled (take (field 1 word) (slots_of word))))
      → (Plain (tag_of word) → P (atom (tag_of word) (number_of word)))
      → P (shape_of word)
  by_tag P encryption signature hash tuple number =
      go (ℕ_discrete (tag_of word) 7) (ℕ_discrete (tag_of word) 8) (ℕ_discrete (tag_of word) 9) (ℕ_discrete (tag_of word) 10)
    where
      go : Dec (tag_of word ≡ 7) → Dec (tag_of word ≡ 8) → Dec (tag_of word ≡ 9) → Dec (tag_of word ≡ 10) → P (shape_of word)
      go (yes a) b c d = rw (shape_encrypted a) (encryption a)
      go (no a) (yes b) c d = rw (shape_signed b) (signature b)
      go (no a) (no b) (yes c) d = rw (shape_hashed c) (hash c)
      go (no a) (no b) (no c) (yes d) = rw (shape_tupled d) (tuple d)
      go (no a) (no b) (no c) (no d) = let plain : Plain (tag_of word) = λ low high. omega arith in rw (shape_atom plain) (number plain)

  -- the parts of a row are the first of its four slots
  pub parts_taken : parts_of (shape_of word) ≡ take (length (parts_of (shape_of word))) (slots_of word)
  parts_taken =
      by_tag (λ (shape : Shape ℕ). parts_of shape ≡ take (length (parts_of shape)) (slots_of word)) (λ e. refl) (λ e. refl) (λ e. refl)
      (λ e. sym (take_taken (field 1 word) (slots_of word)))
      (λ plain. refl)

  pub parts_at : (slot : ℕ) → slot < length (parts_of (shape_of word)) → get_or (parts_of (shape_of word)) slot 0 ≡ field (3 + slot) word
  parts_at slot h =
      ap (λ (parts : List ℕ). get_or parts slot 0) parts_taken ∙ get_or-take _ (slots_of word) slot 0 h ∙ get_or-drop 3 (split term_widths word) slot 0

-- how many slots a row uses, by its tag
module _ (word tag : ℕ) (is : tag ≡ tag_of word) where
  pub slots_keyed : 7 ≤ tag → tag < 9 → 2 ≡ length (parts_of (shape_of word))
  slots_keyed low high =
      by_tag word (λ (shape : Shape ℕ). 2 ≡ length (parts_of shape)) (λ e. refl) (λ e. refl) (λ e. absurd (omega arith)) (λ e. absurd (omega arith))
      (λ plain. absurd (plain (omega arith) (omega arith)))

  pub slots_hashed : tag ≡ 9 → 1 ≡ length (parts_of (shape_of word))
  slots_hashed e = rw (shape_hashed word (sym is ∙ e))

  pub slots_tupled : (n count : ℕ) → tag ≡ 10 → count ≡ field 1 word → n ≡ min 4 count → n ≡ length (parts_of (shape_of word))
  slots_tupled n count e c h = rw (shape_tupled word (sym is ∙ e), length-take, ← c) (omega arith)

  pub slots_atom : Plain tag → 0 ≡ length (parts_of (shape_of word))
  slots_atom plain = rw (shape_atom word (λ low high. plain (omega arith) (omega arith)))

pub ruleset slots-ways = (slots_hashed, slots_tupled, arith)
