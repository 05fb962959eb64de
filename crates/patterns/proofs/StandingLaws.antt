-- The pattern of a good row, by the row's tag.
use Prim.Native.Nat.{ℕ, ◌≤◌, ◌<◌}
use mathlib.Core.Path.{◌≡◌, ap, ◌∙◌}
use mathlib.Core.List.{List}
use native.Mathlib.Omega.{arith}
use lib.ListN.{length, get_or}
use Rattle.word.proofs.All.{All, all_at, all_map}
use Rattle.patterns.specs.Pattern.{object, raw, constant, opposite, key_of, encryption, signature, hash, tuple, let_in}
use Rattle.patterns.specs.Row.{pattern_fields, children, children_of}
use Rattle.patterns.specs.Tree.{key_by, parts_by, patterns_of}
use Rattle.patterns.proofs.RowLaws.{children_count, child_slot}
use Rattle.patterns.specs.GoodRow.{GoodKey, GoodRow}
use Rattle.patterns.proofs.GoodRow as fits
use Rattle.patterns.proofs.FormLaws.{Formed, formed}
use Rattle.patterns.proofs.TreeLaws.{parts_same}
use Rattle.patterns.specs.Standing.{pattern_in, Stands, StandsAt}

-- a child as the code holds it
pub slot : (children : List ℕ) (word i : ℕ) → children ≡ (pattern_fields word).slots → get_or children i 0 ≡ get_or (pattern_fields word).slots i 0
slot children word i h = ap (λ (l : List ℕ). get_or l i 0) h

-- a child of a row
pub stands_below : {rows : List ℕ} {row child : ℕ} → Stands rows row → child < row → Stands rows child
stands_below asked below = record { good = λ place h. asked.good place (omega arith); inside = omega (arith, asked.inside); most = omega (arith, asked.most) }

module _ {rows : List ℕ} {row word : ℕ} (asked : StandsAt rows row word) where
  pub good_row : GoodRow row (pattern_fields word)
  good_row = rw asked.here ((fits.good_row row (pattern_fields (get_or rows row 0))).0 (asked.stands.good row (omega arith)))

  by_form : Formed (patterns_of rows) row word
  by_form = rw asked.here (formed rows row asked.stands.inside)

  -- the children of a row are below it
  children_below : All (λ child. child < row) (children (pattern_fields word))
  children_below = good_row.below

  pub slot_low : (n i : ℕ) → (pattern_fields word).n ≡ n → i < n → n ≤ 4 → get_or (pattern_fields word).slots i 0 < row
  slot_low n i e h four =
      let few = children_count word in
      let inside : i < length (children_of word) = omega arith in
      rw (child_slot word i inside) at (all_at (λ child. child < row) (children_of word) 0 children_below i inside)

  pub object_row : (pattern_fields word).tag ≡ 0 → pattern_in rows row ≡ object row (pattern_fields word).v
  object_row h = by_form.form ∙ rw h

  pub raw_row : (pattern_fields word).tag ≡ 1 → pattern_in rows row ≡ raw row (pattern_fields word).r
  raw_row h = by_form.form ∙ rw h

  pub constant_row : (pattern_fields word).tag ≡ 2 → pattern_in rows row ≡ constant row (pattern_fields word).v (pattern_fields word).x
  constant_row h = by_form.form ∙ rw h

  pub opposite_row : (pattern_fields word).tag ≡ 3 → pattern_in rows row ≡ opposite row (pattern_fields word).v (pattern_fields word).y
  opposite_row h = by_form.form ∙ rw h

  pub key_of_row : (pattern_fields word).tag ≡ 4 → pattern_in rows row ≡ key_of row (pattern_fields word).v (pattern_fields word).y
  key_of_row h = by_form.form ∙ rw h

  pub signature_row : (pattern_fields word).tag ≡ 6 → pattern_in rows row ≡ signature row (pattern_fields word).v (key_by (pattern_fields word)) (pattern_fields word).r
  signature_row h = by_form.form ∙ rw h

  pub hash_row : (pattern_fields word).tag ≡ 7 → pattern_in rows row ≡ hash row (pattern_fields word).v (pattern_fields word).r
  hash_row h = by_form.form ∙ rw h

  -- a key is F = 0, 1 or 2 of one of the 64 variables
  key_fields : GoodKey (pattern_fields word) → ((pattern_fields word).f < 3) × ((pattern_fields word).x < 64)
  key_fields key = (omega (arith, key.form), omega (arith, key.variable))

  pub encryption_key : (pattern_fields word).tag ≡ 5 → ((pattern_fields word).f < 3) × ((pattern_fields word).x < 64)
  encryption_key h = key_fields (good_row.encryption h).0

  pub signature_key : (pattern_fields word).tag ≡ 6 → ((pattern_fields word).f < 3) × ((pattern_fields word).x < 64)
  signature_key h = key_fields (good_row.signature h).0

  module _ (child : ℕ) (first : child ≡ get_or (pattern_fields word).slots 0 0) where
    pub encryption_child : (pattern_fields word).tag ≡ 5 → child < row
    encryption_child h = rw first (slot_low 1 0 (good_row.encryption h).1 (omega arith) (omega arith))

    pub encryption_row : (pattern_fields word).tag ≡ 5 → pattern_in rows row ≡ encryption row (pattern_fields word).v (key_by (pattern_fields word)) (pattern_in rows child)
    encryption_row h = by_form.form ∙ rw (h, ← first) (ap (encryption row (pattern_fields word).v (key_by (pattern_fields word))) (by_form.before child (encryption_child h)))

    module _ (other : ℕ) (second : other ≡ get_or (pattern_fields word).slots 1 0) where
      pub let_children : (pattern_fields word).tag ≡ 9 → (child < row) × (other < row)
      let_children h =
          let n = (good_row.let_in h).0 in
          (rw first (slot_low 2 0 n (omega arith) (omega arith)), rw second (slot_low 2 1 n (omega arith) (omega arith)))

      pub let_row : (pattern_fields word).tag ≡ 9 → pattern_in rows row ≡ let_in row (pattern_fields word).r (pattern_in rows child) (pattern_in rows other)
      let_row h =
          let one = by_form.before child (let_children h).0 in
          let two = by_form.before other (let_children h).1 in
          by_form.form ∙ rw (h, ← first, ← second) (cc)

  pub tuple_row : (pattern_fields word).tag ≡ 8 → pattern_in rows row ≡ tuple row (pattern_fields word).v (parts_by (pattern_in rows) (children_of word))
  tuple_row h =
      by_form.form ∙ rw h (ap (tuple row (pattern_fields word).v) (parts_same by_form.below (pattern_in rows) (children_of word) (all_map (children_of word) by_form.before children_below)))

-- tags told apart, as a match does
pub above_four : (tag : ℕ) → (tag ≡ 0 → ⊥) → (tag ≡ 1 → ⊥) → (tag ≡ 2 → ⊥) → (tag ≡ 3 → ⊥) → (tag ≡ 4 → ⊥) → 5 ≤ tag
above_four tag n₀ n₁ n₂ n₃ n₄ = omega arith

pub seven_left : (tag : ℕ) → 5 ≤ tag → tag < 10 → (tag ≡ 5 → ⊥) → (tag ≡ 6 → ⊥) → (tag ≡ 8 → ⊥) → (tag ≡ 9 → ⊥) → tag ≡ 7
seven_left tag high low n₅ n₆ n₈ n₉ = omega arith

-- V, a key's X and Y are of the 64 variables
pub variable_low : (word v : ℕ) → v ≡ (pattern_fields word).v → v < 64
unfolding pattern_fields
variable_low word v e = rw e (omega arith)

pub key_low : (word : ℕ) → ((pattern_fields word).f < 3) × ((pattern_fields word).x < 64) → (x : ℕ) → x ≡ (pattern_fields word).x → x < 64
key_low word good x e = omega arith

pub second_low : (word y : ℕ) → y ≡ (pattern_fields word).y → y < 64
unfolding pattern_fields
second_low word y e = rw e (omega arith)
