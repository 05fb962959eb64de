-- A shape that a row can hold is packed into a word and read back.
use mathlib.Core.Path.{◌≡◌, refl, sym, ◌∙◌, ap}
use mathlib.Core.Logic.{◌≢◌}
use mathlib.Core.Bool.{Bool, true, false, cond}
use mathlib.Core.List.{List, [], ◌∷◌}
use Prim.Native.Nat.{ℕ, ◌^◌, ◌<◌, ◌≤◌}
use native.Mathlib.Omega.{arith}
use lib.Dec.{T, eqb, eqb→eq}
use lib.ListN.{length, take, drop, replicate}
use borrow.Author.Tests.{ne_eqb}
use Rattle.word.specs.Fields.{split, join, at}
use Rattle.word.proofs.FieldLaws.{Fit, fit_equal, padded, padded_front, split_join_padded, join_below}
use Rattle.word.proofs.All.{All}
use Rattle.terms.specs.Shape.{Shape, atom, encrypted, signed, hashed, tupled, kind_of}
use Rattle.terms.specs.Row.{term_widths, atom_widths, row_of, tag_of, shape_by, shape_of}
use Rattle.terms.specs.Rules.{is_packed}

-- a row can hold the shape: at most four parts, row numbers of 12 bits, and numbers of 16
abbrev pub Packs : Shape ℕ → Type 0
Packs (atom tag number) = (1 ≤ tag) × (tag ≤ 6) × (number < 2 ^ 16)
Packs (encrypted key body) = (key < 2 ^ 12) × (body < 2 ^ 12)
Packs (signed key body) = (key < 2 ^ 12) × (body < 2 ^ 12)
Packs (hashed body) = body < 2 ^ 12
Packs (tupled parts) = (length parts ≤ 4) × All (λ part. part < 2 ^ 12) parts

-- the tag is the shape's kind
kind_chosen : (tag kind : ℕ) (shape other : Shape ℕ) → kind_of shape ≡ kind → kind_of other ≡ tag → kind_of (cond (eqb tag kind) shape other) ≡ tag
kind_chosen tag kind shape other p q = go (eqb tag kind) (eqb→eq tag kind)
  where
    go : (b : Bool) → (T b → tag ≡ kind) → kind_of (cond b shape other) ≡ tag
    go true e = p ∙ sym (e tt)
    go false e = q

pub tag_kind : (word : ℕ) → kind_of (shape_of word) ≡ tag_of word
unfolding shape_of
tag_kind word =
    let tag = tag_of word in
    kind_chosen tag 7 _ _ refl (kind_chosen tag 8 _ _ refl (kind_chosen tag 9 _ _ refl (kind_chosen tag 10 _ _ refl refl)))

-- a tag below 7 is an atom's
shape_atom : (tag word : ℕ) → tag ≤ 6 → shape_by tag word ≡ atom tag (at 2 (split atom_widths word))
shape_atom tag word small =
    let differs : (kind : ℕ) → 6 < kind → eqb tag kind ≡ false = λ kind large. ne_eqb tag kind (λ e. omega arith) in
    rw (differs 7 (omega arith), differs 8 (omega arith), differs 9 (omega arith), differs 10 (omega arith))

-- the fields that are packed
abbrev widths_of : Shape ℕ → List ℕ
widths_of (atom tag number) = atom_widths
widths_of (encrypted key body) = term_widths
widths_of (signed key body) = term_widths
widths_of (hashed body) = term_widths
widths_of (tupled parts) = term_widths

abbrev fields_of : Shape ℕ → List ℕ
fields_of (atom tag number) = tag ∷ 0 ∷ number ∷ []
fields_of (encrypted key body) = 7 ∷ 0 ∷ 0 ∷ key ∷ body ∷ []
fields_of (signed key body) = 8 ∷ 0 ∷ 0 ∷ key ∷ body ∷ []
fields_of (hashed body) = 9 ∷ 0 ∷ 0 ∷ body ∷ []
fields_of (tupled parts) = 10 ∷ length parts ∷ 0 ∷ parts

fields_fit : (shape : Shape ℕ) → Packs shape → Fit (widths_of shape) (fields_of shape)
fields_fit (atom tag number) packs = omega arith
fields_fit (encrypted key body) packs = omega arith
fields_fit (signed key body) packs = omega arith
fields_fit (hashed body) packs = omega arith
fields_fit (tupled parts) packs = (omega arith, (omega arith, (omega arith, fit_equal 12 4 parts packs.0 packs.1)))

fields_back : (shape : Shape ℕ) → Packs shape → split (widths_of shape) (join (widths_of shape) (fields_of shape)) ≡ padded (widths_of shape) (fields_of shape)
fields_back shape packs = split_join_padded (widths_of shape) (fields_of shape) (fields_fit shape packs)

pub tag_word : (shape : Shape ℕ) → Packs shape → tag_of (row_of shape) ≡ kind_of shape
unfolding tag_of row_of
tag_word (atom tag number) packs = ap (at 0) (fields_back (atom tag number) packs)
tag_word (encrypted key body) packs = ap (at 0) (fields_back (encrypted key body) packs)
tag_word (signed key body) packs = ap (at 0) (fields_back (signed key body) packs)
tag_word (hashed body) packs = ap (at 0) (fields_back (hashed body) packs)
tag_word (tupled parts) packs = ap (at 0) (fields_back (tupled parts) packs)

shape_fields : (shape : Shape ℕ) → Packs shape → shape_by (kind_of shape) (row_of shape) ≡ shape
unfolding row_of
shape_fields (atom tag number) packs =
    shape_atom tag (row_of (atom tag number)) packs.1 ∙ ap (λ f. atom tag (at 2 f)) (fields_back (atom tag number) packs)
shape_fields (encrypted key body) packs = ap (λ f. encrypted (at 3 f) (at 4 f)) (fields_back (encrypted key body) packs)
shape_fields (signed key body) packs = ap (λ f. signed (at 3 f) (at 4 f)) (fields_back (signed key body) packs)
shape_fields (hashed body) packs = ap (λ f. hashed (at 3 f)) (fields_back (hashed body) packs)
shape_fields (tupled parts) packs =
    ap (λ f. tupled (take (at 1 f) (drop 3 f))) (fields_back (tupled parts) packs) ∙ ap tupled (padded_front (replicate 4 12) parts packs.0)

pub shape_word : (shape : Shape ℕ) → Packs shape → shape_of (row_of shape) ≡ shape
unfolding shape_of
shape_word shape packs = ap (λ tag. shape_by tag (row_of shape)) (tag_word shape packs) ∙ shape_fields shape packs

-- a good row is the word of its shape
pub word_shape : (word : ℕ) → T (is_packed word) → row_of (shape_of word) ≡ word
unfolding is_packed
word_shape word same = eqb→eq (row_of (shape_of word)) word same

pub word_injective : (shape other : Shape ℕ) → Packs shape → Packs other → row_of shape ≡ row_of other → shape ≡ other
word_injective shape other packs fits same = sym (shape_word shape packs) ∙ ap shape_of same ∙ shape_word other fits

pub kind_known : (shape : Shape ℕ) → Packs shape → (1 ≤ kind_of shape) × (kind_of shape ≤ 10)
kind_known (atom tag number) packs = omega arith
kind_known (encrypted key body) packs = omega arith
kind_known (signed key body) packs = omega arith
kind_known (hashed body) packs = omega arith
kind_known (tupled parts) packs = omega arith

-- a word with a tag is not the unused row
pub tag_nonzero : (word : ℕ) → 1 ≤ tag_of word → word ≢ 0
unfolding tag_of
tag_nonzero word known zeros = omega (arith, ap tag_of zeros)

pub word_nonzero : (shape : Shape ℕ) → Packs shape → row_of shape ≢ 0
word_nonzero shape packs = tag_nonzero (row_of shape) (rw tag_word (kind_known shape packs).0)

pub word_below : (shape : Shape ℕ) → Packs shape → row_of shape < 2 ^ 64
unfolding row_of
word_below (atom tag number) packs = join_below atom_widths (tag ∷ 0 ∷ number ∷ []) (fields_fit (atom tag number) packs)
word_below (encrypted key body) packs = join_below term_widths (7 ∷ 0 ∷ 0 ∷ key ∷ body ∷ []) (fields_fit (encrypted key body) packs)
word_below (signed key body) packs = join_below term_widths (8 ∷ 0 ∷ 0 ∷ key ∷ body ∷ []) (fields_fit (signed key body) packs)
word_below (hashed body) packs = join_below term_widths (9 ∷ 0 ∷ 0 ∷ body ∷ []) (fields_fit (hashed body) packs)
word_below (tupled parts) packs = join_below term_widths (10 ∷ length parts ∷ 0 ∷ parts) (fields_fit (tupled parts) packs)
