-- Laws of what rows mean: in a valid table different rows mean different terms, and rows that are kept keep their meanings.
use mathlib.Core.Path.{◌≡◌, refl, sym, ◌∙◌, ap, ap₂}
use mathlib.Core.List.{List, [], ◌∷◌, map}
use Prim.Native.Nat.{ℕ, zero, suc, ◌<◌}
use native.Mathlib.Omega.{arith}
use lib.ListN.{get_or}
use Rattle.word.proofs.All.{All, all_map}
use Rattle.terms.specs.Shape.{Shape, atom, encrypted, signed, hashed, tupled, parts_of}
use Rattle.terms.specs.Row.{row_of, shape_of}
use Rattle.terms.specs.Rules.{used_rows}
use Rattle.terms.specs.Table.{ValidTable}
use Rattle.theory.specs.TermModel.{Term, listed, collected, term_of}
use Rattle.theory.specs.TermModel as Term
use Rattle.theory.specs.Meaning.{reshaped, term_at, meaning}
use Rattle.theory.proofs.Related.{EachR, nil, cons, ShapeR, atom_r, encrypted_r, signed_r, hashed_r, tupled_r}

-- a term and its shape
pub shape_listed : (parts : List Term) → listed (collected parts) ≡ parts
shape_listed [] = refl
shape_listed (t ∷ parts) = ap (t ∷◌) (shape_listed parts)

pub shape_term : (shape : Shape Term) → Term.shape_of_term (term_of shape) ≡ shape
shape_term (atom tag number) = refl
shape_term (encrypted key body) = refl
shape_term (signed key body) = refl
shape_term (hashed body) = refl
shape_term (tupled parts) = ap tupled (shape_listed parts)

module _ {A B : Type 0} (g h : A → B) where
  map_same : (parts : List A) → All (λ a. g a ≡ h a) parts → map g parts ≡ map h parts
  map_same [] same = refl
  map_same (a ∷ parts) same = ap₂ ◌∷◌ same.0 (map_same parts same.1)

  reshaped_same : (shape : Shape A) → All (λ a. g a ≡ h a) (parts_of shape) → reshaped g shape ≡ reshaped h shape
  reshaped_same (atom tag number) same = refl
  reshaped_same (encrypted key body) same = ap₂ encrypted same.0 same.1.0
  reshaped_same (signed key body) same = ap₂ signed same.0 same.1.0
  reshaped_same (hashed body) same = ap hashed same.0
  reshaped_same (tupled parts) same = ap tupled (map_same parts same)

-- a relation that goes with a function
module _ {A B : Type 0} (R : A → B → Type 0) (g : A → B) where
  map_related : (parts : List A) → All (λ a. R a (g a)) parts → EachR R parts (map g parts)
  map_related [] r = nil
  map_related (a ∷ parts) r = cons r.0 (map_related parts r.1)

  pub reshaped_related : (shape : Shape A) → All (λ a. R a (g a)) (parts_of shape) → ShapeR R shape (reshaped g shape)
  reshaped_related (atom tag number) r = atom_r
  reshaped_related (encrypted key body) r = encrypted_r r.0 r.1.0
  reshaped_related (signed key body) r = signed_r r.0 r.1.0
  reshaped_related (hashed body) r = hashed_r r.0
  reshaped_related (tupled parts) r = tupled_r (map_related parts r)

  module _ (follows : (a : A) (b : B) → R a b → g a ≡ b) where
    related_map : {parts : List A} {others : List B} → EachR R parts others → map g parts ≡ others
    related_map nil = refl
    related_map (cons r rs) = ap₂ ◌∷◌ (follows _ _ r) (related_map rs)

    pub related_reshaped : {shape : Shape A} {other : Shape B} → ShapeR R shape other → reshaped g shape ≡ other
    related_reshaped atom_r = refl
    related_reshaped (encrypted_r r q) = ap₂ encrypted (follows _ _ r) (follows _ _ q)
    related_reshaped (signed_r r q) = ap₂ signed (follows _ _ r) (follows _ _ q)
    related_reshaped (hashed_r r) = ap hashed (follows _ _ r)
    related_reshaped (tupled_r rs) = ap tupled (related_map rs)

-- parts that are related to the same are the same
module _ {A B : Type 0} (R : A → B → Type 0) (once : (a c : A) (b : B) → R a b → R c b → a ≡ c) where
  each_once : {parts more : List A} {others : List B} → EachR R parts others → EachR R more others → parts ≡ more
  each_once nil nil = refl
  each_once (cons r rs) (cons q qs) = ap₂ ◌∷◌ (once _ _ _ r q) (each_once rs qs)

  shape_once : {shape other : Shape A} {image : Shape B} → ShapeR R shape image → ShapeR R other image → shape ≡ other
  shape_once atom_r atom_r = refl
  shape_once (encrypted_r r s) (encrypted_r q t) = ap₂ encrypted (once _ _ _ r q) (once _ _ _ s t)
  shape_once (signed_r r s) (signed_r q t) = ap₂ signed (once _ _ _ r q) (once _ _ _ s t)
  shape_once (hashed_r r) (hashed_r q) = ap hashed (once _ _ _ r q)
  shape_once (tupled_r rs) (tupled_r qs) = ap tupled (each_once rs qs)

-- the laws of meaning, in a valid table
module _ {rows : List ℕ} {counter : ℕ} (valid : ValidTable rows counter) where
  abbrev row_shape : ℕ → Shape ℕ
  row_shape row = shape_of (get_or rows row 0)

  -- what holds of smaller rows holds of the parts
  parts_all : (P : ℕ → Type 0) (row : ℕ) → row < used_rows rows → ((part : ℕ) → part < row → P part) → All P (parts_of (row_shape row))
  parts_all P row used smaller = all_map (parts_of (row_shape row)) smaller (valid.good row used).below

  -- any depth that is enough gives the same
  depth_same : (depth other row : ℕ) → row < depth → row < other → row < used_rows rows → term_at rows depth row ≡ term_at rows other row
  unfolding term_at
  depth_same zero other row deep enough used = absurd (omega arith)
  depth_same (suc depth) zero row deep enough used = absurd (omega arith)
  depth_same (suc depth) (suc other) row deep enough used =
      ap term_of (reshaped_same (term_at rows depth) (term_at rows other) (row_shape row)
      (parts_all (λ part. term_at rows depth part ≡ term_at rows other part) row used λ part l. depth_same depth other part (omega arith) (omega arith) (omega arith)))

  pub meaning_of : (row : ℕ) → row < used_rows rows → meaning rows row ≡ term_of (reshaped (meaning rows) (shape_of (get_or rows row 0)))
  unfolding term_at
  meaning_of row used =
      ap term_of (reshaped_same (term_at rows row) (meaning rows) (row_shape row)
      (parts_all (λ part. term_at rows row part ≡ meaning rows part) row used λ part l. depth_same row (suc part) part (omega arith) (omega arith) (omega arith)))

  pub meaning_shape : (row : ℕ) → row < used_rows rows → Term.shape_of_term (meaning rows row) ≡ reshaped (meaning rows) (shape_of (get_or rows row 0))
  meaning_shape row used = ap Term.shape_of_term (meaning_of row used) ∙ shape_term (reshaped (meaning rows) (row_shape row))

  -- a row's shape is its term's, over parts that are related to what they mean
  pub shape_related : (R : ℕ → Term → Type 0) (row : ℕ) → row < used_rows rows → ((part : ℕ) → part < row → R part (meaning rows part))
      → ShapeR R (shape_of (get_or rows row 0)) (Term.shape_of_term (meaning rows row))
  shape_related R row used related =
      rw (meaning_shape row used) (reshaped_related R (meaning rows) (row_shape row) (parts_all (λ part. R part (meaning rows part)) row used related))

  same_word : (row other : ℕ) → row < used_rows rows → other < used_rows rows → get_or rows row 0 ≡ get_or rows other 0 → row ≡ other
  same_word row other used also same =
      let not_before : ¬ (row < other) = λ l. (valid.good other also).new row l same in
      let not_after : ¬ (other < row) = λ l. (valid.good row used).new other l (sym same) in
      omega arith

  -- rows that mean the same are the same: their parts are, so their words are
  abbrev Smaller : ℕ → ℕ → Term → Type 0
  Smaller bound part t = (part < bound) × (part < used_rows rows) × (meaning rows part ≡ t)

  same_below : (bound row other : ℕ) → row < bound → other < bound → row < used_rows rows → other < used_rows rows
      → meaning rows row ≡ meaning rows other → row ≡ other
  same_below zero row other l m used also same = absurd (omega arith)
  same_below (suc bound) row other l m used also same =
      let once : (a c : ℕ) (t : Term) → Smaller bound a t → Smaller bound c t → a ≡ c =
      λ a c t p q. same_below bound a c p.0 q.0 p.1 q.1 (p.2 ∙ sym q.2) in
      let image = shape_related (Smaller bound) row used λ part h. (omega arith, omega arith, refl) in
      let its = shape_related (Smaller bound) other also λ part h. (omega arith, omega arith, refl) in
      let shapes = shape_once (Smaller bound) once image (rw (← same) at its) in
      same_word row other used also (sym (valid.good row used).packed ∙ ap row_of shapes ∙ (valid.good other also).packed)

  pub meaning_once : (row other : ℕ) → row < used_rows rows → other < used_rows rows → meaning rows row ≡ meaning rows other → row ≡ other
  meaning_once row other used also = same_below (used_rows rows) row other used also used also

  -- rows that are kept keep their meanings
  module _ (others : List ℕ) (kept : (row : ℕ) → row < used_rows rows → get_or others row 0 ≡ get_or rows row 0) where
    depth_kept : (depth row : ℕ) → row < used_rows rows → term_at others depth row ≡ term_at rows depth row
    unfolding term_at
    depth_kept zero row used = refl
    depth_kept (suc depth) row used =
        rw (kept row used)
        (ap term_of (reshaped_same (term_at others depth) (term_at rows depth) (row_shape row)
        (parts_all (λ part. term_at others depth part ≡ term_at rows depth part) row used λ part l. depth_kept depth part (omega arith))))

    pub meaning_kept : (row : ℕ) → row < used_rows rows → meaning others row ≡ meaning rows row
    meaning_kept row used = depth_kept (suc row) row used
