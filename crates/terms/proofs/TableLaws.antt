-- The tests of a term table say what document 01 says; a valid table stays valid when a row is added or the counter is raised.
use mathlib.Core.Path.{◌≡◌, refl, sym, ◌∙◌, ap}
use mathlib.Core.Logic.Iff
use mathlib.Core.Logic.{◌↔◌, ◌≢◌}
use mathlib.Core.Bool.{Bool, true, false, cond, not}
use Rattle.std.specs.Prelude.{None, Some}
use mathlib.Core.List.{List, [], ◌∷◌}
use Prim.Native.Nat.{ℕ, zero, suc, ◌<◌, ◌≤◌}
use native.Mathlib.Omega.{arith}
use native.Mathlib.Decide.{dec_lt, ℕ_discrete}
use lib.Dec.{T, eqb, ltb}
use lib.ListN.{length, get_or, set, length-set, get_or-eq_default}
use lib.Seq.{get_or-take, get_or-set_same, get_or-set_other, length-take-le}
use Rattle.word.specs.Lowest.{LowestBad, AllGood}
use Rattle.word.proofs.TestLaws.{both, chosen, fails, equals, is_below, not_below, at_most}
use Rattle.word.proofs.LowestLaws.{each_all, one_of_lem, one_of_two, none_bad, lowest_bad}
use Rattle.terms.specs.Shape.{Shape, atom, encrypted, signed, hashed, tupled, parts_of}
use Rattle.terms.specs.Row.{row_of, tag_of, shape_of}
use Rattle.terms.specs.Rules.{used_rows, known_tag, is_packed, number_fits, parts_below, key_kind_fits, earlier_equal, fits, bad_term_row, bad_term}
use Rattle.terms.specs.Table.{NumberFits, PartsBelow, KeyKindFits, GoodTerm, ValidTable, Sound}
use Rattle.terms.proofs.RowLaws.{Packs, kind_known, tag_word, shape_word, tag_nonzero}

-- each rule, as a test and as a proposition
known_tag_lem : (word : ℕ) → T (known_tag word) ↔ ((1 ≤ tag_of word) × (tag_of word ≤ 10))
unfolding known_tag
known_tag_lem word = simp (both, at_most) Iff.rfl

unused_zero : (word : ℕ) → T (is_packed word) ↔ (row_of (shape_of word) ≡ word)
unfolding is_packed
unused_zero word = equals (row_of (shape_of word)) word

number_fits_lem : (counter : ℕ) (shape : Shape ℕ) → T (number_fits counter shape) ↔ NumberFits counter shape
unfolding number_fits
number_fits_lem counter (atom tag number) =
    simp (chosen, fails, equals, is_below) (λ h. (h.0, λ n m. (h.1 n).1 m), λ h. (h.0, λ n. (λ _. tt, h.1 n)))
number_fits_lem counter (encrypted key body) = Iff.rfl
number_fits_lem counter (signed key body) = Iff.rfl
number_fits_lem counter (hashed body) = Iff.rfl
number_fits_lem counter (tupled parts) = Iff.rfl

parts_below_lem : (row : ℕ) (shape : Shape ℕ) → T (parts_below row shape) ↔ PartsBelow row shape
unfolding parts_below
parts_below_lem row shape = each_all (λ part. ltb part row) (λ part. part < row) (λ part. is_below part row) (parts_of shape)

key_fits : (rows : List ℕ) (shape : Shape ℕ) → T (key_kind_fits rows shape) ↔ KeyKindFits rows shape
unfolding key_kind_fits
key_fits rows (atom tag number) = Iff.rfl
key_fits rows (encrypted key body) = one_of_two 4 6 (tag_of (get_or rows key 0))
key_fits rows (signed key body) = one_of_two 5 6 (tag_of (get_or rows key 0))
key_fits rows (hashed body) = Iff.rfl
key_fits rows (tupled parts) = Iff.rfl

pub no_earlier : (rows : List ℕ) (row word : ℕ) → row ≤ length rows
    → T (not (earlier_equal rows row word)) ↔ ((earlier : ℕ) → earlier < row → get_or rows earlier 0 ≢ word)
unfolding earlier_equal
no_earlier rows row word inside =
    simp (fails, one_of_lem, length-take-le row rows inside)
    (λ h i l e. h (i, l, get_or-take row rows i 0 l ∙ e), λ h p. h p.0 p.1 (sym (get_or-take row rows p.0 0 p.1) ∙ p.2))

good_row : (rows : List ℕ) (counter row word : ℕ) → row ≤ length rows → T (fits rows counter row word) ↔ GoodTerm rows counter row word
good_row rows counter row word inside =
    simp (both, known_tag_lem, unused_zero, number_fits_lem, parts_below_lem, key_fits, no_earlier) (
      λ h. record { known = h.0.0.0.0.0; packed = h.0.0.0.0.1; number = h.0.0.0.1; below = h.0.0.1; key = h.0.1; new = h.1 },
      λ h. ((((((h.known, h.packed), h.number), h.below), h.key), h.new)),
    )

-- the used rows are those before the first zero row
pub record Used (rows : List ℕ) (count : ℕ) : Type 0 where
  pub inside : count ≤ length rows
  pub nonzero : (row : ℕ) → row < count → get_or rows row 0 ≢ 0
  pub ends : get_or rows count 0 ≡ 0

pub used_rows_lem : (rows : List ℕ) → Used rows (used_rows rows)
unfolding used_rows
used_rows_lem [] = record { inside = omega arith; nonzero = λ row l. absurd (omega arith); ends = refl }
used_rows_lem (word ∷ rows) = go (eqb word 0) (equals word 0) (used_rows_lem rows)
  where
    go : (b : Bool) → T b ↔ (word ≡ 0) → Used rows (used_rows rows) → Used (word ∷ rows) (elim b [ true ↦ zero | false ↦ suc (used_rows rows) ])
    go true e u = record { inside = omega arith; nonzero = λ row l. absurd (omega arith); ends = e.0 tt }
    go false e u = record { inside = omega arith; nonzero = nonzero; ends = u.ends }
      where
        nonzero : (row : ℕ) → row < suc (used_rows rows) → get_or (word ∷ rows) row 0 ≢ 0
        nonzero zero l = e.1
        nonzero (suc row) l = u.nonzero row (omega arith)

pub used_once : {rows : List ℕ} {count : ℕ} → Used rows count → used_rows rows ≡ count
used_once {rows} {count} u =
    let more : ¬ (count < used_rows rows) = λ l. (used_rows_lem rows).nonzero count l u.ends in
    let fewer : ¬ (used_rows rows < count) = λ l. u.nonzero (used_rows rows) l (used_rows_lem rows).ends in
    omega arith

not_chosen : (a b c : Bool) → not (cond a (not b) (not c)) ≡ cond a b c
not_chosen true true c = refl
not_chosen true false c = refl
not_chosen false b true = refl
not_chosen false b false = refl

sound_row : (rows : List ℕ) (counter row word : ℕ) → row ≤ length rows → T (not (bad_term_row rows counter row word)) ↔ Sound rows counter row word
unfolding bad_term_row
sound_row rows counter row word inside = simp (not_chosen, chosen, is_below, not_below, equals, good_row) Iff.rfl

sound_at : (rows : List ℕ) (counter row : ℕ) → row < length rows → T (not (bad_term_row rows counter row (get_or rows row 0))) ↔ Sound rows counter row (get_or rows row 0)
sound_at rows counter row inside = sound_row rows counter row (get_or rows row 0) (omega arith)

-- 2 is given exactly where the table is not valid
pub valid_table : (rows : List ℕ) (counter : ℕ) → (bad_term rows counter ≡ None) ↔ ValidTable rows counter
unfolding bad_term
valid_table rows counter =
    Iff.trans (none_bad (bad_term_row rows counter) (λ row. Sound rows counter row (get_or rows row 0)) rows 0 (sound_at rows counter)) (
      λ h. record { good = λ row. (sound h row (dec_lt row (length rows))).0; zeros = λ row. (sound h row (dec_lt row (length rows))).1 },
      λ valid row inside. (valid.good row, valid.zeros row),
    )
  where
    sound : AllGood (λ row. Sound rows counter row (get_or rows row 0)) (length rows) → (row : ℕ) → Dec (row < length rows) → Sound rows counter row (get_or rows row 0)
    sound h row (yes inside) = h row inside
    sound h row (no outside) = (λ l. absurd (omega (arith, (used_rows_lem rows).inside)), λ l. get_or-eq_default rows 0 (omega arith))

-- 2, exactly: the lowest row that breaks a rule
pub bad_term_at : (rows : List ℕ) (counter row : ℕ) → (bad_term rows counter ≡ Some row) ↔ LowestBad (λ row. Sound rows counter row (get_or rows row 0)) (length rows) row
unfolding bad_term
bad_term_at rows counter = lowest_bad (bad_term_row rows counter) (λ row. Sound rows counter row (get_or rows row 0)) rows 0 (sound_at rows counter)

-- a rule of a row looks at earlier rows only
module _ (rows other : List ℕ) (row : ℕ) (same : (i : ℕ) → i < row → get_or other i 0 ≡ get_or rows i 0) where
  key_same : (shape : Shape ℕ) → PartsBelow row shape → KeyKindFits rows shape → KeyKindFits other shape
  key_same (atom tag number) below key = tt
  key_same (encrypted k body) below key = rw (same k below.0) key
  key_same (signed k body) below key = rw (same k below.0) key
  key_same (hashed body) below key = tt
  key_same (tupled parts) below key = tt

  good_same : {counter word : ℕ} → GoodTerm rows counter row word → GoodTerm other counter row word
  good_same {word = word} g =
      record {
        known = g.known;
        packed = g.packed;
        number = g.number;
        below = g.below;
        key = key_same (shape_of word) g.below g.key;
        new = λ earlier l e. g.new earlier l (sym (same earlier l) ∙ e);
      }

-- what holds below a number and at it holds below the next
below_next : (P : ℕ → Type 0) (n : ℕ) → ((i : ℕ) → i < n → P i) → P n → (i : ℕ) → i < suc n → P i
below_next P n old new i l = go (ℕ_discrete i n)
  where
    go : Dec (i ≡ n) → P i
    go (yes e) = rw e new
    go (no other) = old i (omega arith)

-- a good row in the place of the first unused one
module _ {rows : List ℕ} {counter word : ℕ} (valid : ValidTable rows counter) (free : used_rows rows < length rows)
    (good : GoodTerm rows counter (used_rows rows) word) where
  abbrev count : ℕ
  count = used_rows rows

  abbrev longer : List ℕ
  longer = set rows count word

  old_row : (row : ℕ) → row ≢ count → get_or longer row 0 ≡ get_or rows row 0
  old_row row other = get_or-set_other rows count row word 0 other

  new_row : get_or longer count 0 ≡ word
  new_row = get_or-set_same rows count word 0 free

  zero_past : (row : ℕ) → suc count ≤ row → get_or longer row 0 ≡ 0
  zero_past row l = old_row row (λ e. omega arith) ∙ valid.zeros row (omega arith)

  pub used_added : used_rows (set rows (used_rows rows) word) ≡ suc (used_rows rows)
  used_added = used_once (record { inside = rw length-set free; nonzero = nonzero; ends = zero_past (suc count) (omega arith) })
    where
      nonzero : (row : ℕ) → row < suc count → get_or longer row 0 ≢ 0
      nonzero =
          below_next (λ row. get_or longer row 0 ≢ 0) count (λ row l. rw (old_row row λ e. omega arith) ((used_rows_lem rows).nonzero row l))
          (rw new_row (tag_nonzero word good.known.0))

  pub valid_added : ValidTable (set rows (used_rows rows) word) counter
  valid_added = record { good = λ row l. goods row (rw used_added at l); zeros = λ row l. zero_past row (rw used_added at l) }
    where
      kept : (row : ℕ) → row ≤ count → (i : ℕ) → i < row → get_or longer i 0 ≡ get_or rows i 0
      kept row l i h = old_row i λ e. omega arith

      goods : (row : ℕ) → row < suc count → GoodTerm longer counter row (get_or longer row 0)
      goods =
          below_next (λ row. GoodTerm longer counter row (get_or longer row 0)) count
          (λ row l. rw (old_row row λ e. omega arith) (good_same rows longer row (kept row (omega arith)) (valid.good row l)))
          (rw new_row (good_same rows longer count (kept count (omega arith)) good))

-- numbers stay below a higher counter
module _ {counter higher : ℕ} (up : counter ≤ higher) where
  number_raised : (shape : Shape ℕ) → NumberFits counter shape → NumberFits higher shape
  number_raised (atom tag number) fits = (fits.0, λ n m. omega (arith, fits.1 n m))
  number_raised (encrypted key body) fits = tt
  number_raised (signed key body) fits = tt
  number_raised (hashed body) fits = tt
  number_raised (tupled parts) fits = tt

  good_raised : {rows : List ℕ} {row word : ℕ} → GoodTerm rows counter row word → GoodTerm rows higher row word
  good_raised {word = word} g =
      record { known = g.known; packed = g.packed; number = number_raised (shape_of word) g.number; below = g.below; key = g.key; new = g.new }

  pub valid_raised : {rows : List ℕ} → ValidTable rows counter → ValidTable rows higher
  valid_raised valid = record { good = λ row l. good_raised (valid.good row l); zeros = valid.zeros }

-- a shape that a row of the table may have
pub record GoodShape (rows : List ℕ) (counter row : ℕ) (shape : Shape ℕ) : Type 0 where
  pub packs : Packs shape
  pub number : NumberFits counter shape
  pub below : PartsBelow row shape
  pub key : KeyKindFits rows shape

pub good_word : {rows : List ℕ} {counter row : ℕ} {shape : Shape ℕ} → GoodShape rows counter row shape
    → ((earlier : ℕ) → earlier < row → get_or rows earlier 0 ≢ row_of shape) → GoodTerm rows counter row (row_of shape)
good_word {shape = shape} g new =
    let back = shape_word shape g.packs in
    record {
      known = rw (tag_word shape g.packs) (kind_known shape g.packs);
      packed = ap row_of back;
      number = rw back g.number;
      below = rw back g.below;
      key = rw back g.key;
      new = new;
    }
