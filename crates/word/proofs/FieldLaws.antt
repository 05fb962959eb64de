-- Fields put together come apart again, and a number is put together from its fields: for any widths.
use mathlib.Core.Path.{◌≡◌, refl, sym, ◌∙◌, ap}
use mathlib.Core.List.{List, [], ◌∷◌}
use Prim.Native.Nat.{ℕ, zero, suc, ◌+◌, ◌*◌, ◌/◌, ◌%◌, ◌^◌, ◌<◌, ◌≤◌}
use native.Mathlib.Nat.{mul_assoc, mul-add-div_right, mul-add-mod_self_right, mod-lt, mod-eq_of_lt, mod-one, zero-div, zero-mod}
use native.Mathlib.Omega.{arith}
use lib.ListN.{length, take, replicate}
use lib.Arith.{digits_lt}
use lib.Pow.{pow-add, pow_pos, mod-pow-add, high}
use Rattle.word.specs.Fields.{total, split, join}
use Rattle.word.proofs.All.{All}

-- values that fit their fields, at most as many as there are fields
abbrev pub Fit : List ℕ → List ℕ → Type 0
Fit widths [] = Unit {0}
Fit [] (value ∷ values) = ⊥
Fit (width ∷ widths) (value ∷ values) = (value < 2 ^ width) × Fit widths values

-- a missing value reads as zero
abbrev pub padded : List ℕ → List ℕ → List ℕ
padded [] values = []
padded (width ∷ widths) [] = 0 ∷ padded widths []
padded (width ∷ widths) (value ∷ values) = value ∷ padded widths values

pub padded_full : (widths values : List ℕ) → length values ≡ length widths → padded widths values ≡ values
padded_full [] [] same = refl
padded_full [] (value ∷ values) same = absurd (omega arith)
padded_full (width ∷ widths) [] same = absurd (omega arith)
padded_full (width ∷ widths) (value ∷ values) same = ap (value ∷◌) (padded_full widths values (omega arith))

pub padded_front : (widths values : List ℕ) → length values ≤ length widths → take (length values) (padded widths values) ≡ values
padded_front widths [] fewer = refl
padded_front [] (value ∷ values) fewer = absurd (omega arith)
padded_front (width ∷ widths) (value ∷ values) fewer = ap (value ∷◌) (padded_front widths values (omega arith))

-- values for fields of one width
pub fit_equal : (width count : ℕ) (values : List ℕ) → length values ≤ count → All (λ value. value < 2 ^ width) values
    → Fit (replicate count width) values
fit_equal width count [] fewer below = tt
fit_equal width zero (value ∷ values) fewer below = absurd (omega arith)
fit_equal width (suc count) (value ∷ values) fewer below = (below.0, fit_equal width count values (omega arith) below.1)

pub join_below : (widths values : List ℕ) → Fit widths values → join widths values < 2 ^ total widths
join_below [] [] fit = omega arith
join_below [] (value ∷ values) fit = absurd fit
join_below (width ∷ widths) [] fit = pow_pos (width + total widths)
join_below (width ∷ widths) (value ∷ values) fit = rw pow-add (digits_lt fit.0 (join_below widths values fit.1))

-- what stands above all fields is not looked at
split_above : (widths : List ℕ) (above number : ℕ) → split widths (above * 2 ^ total widths + number) ≡ split widths number
split_above [] above number = refl
split_above (width ∷ widths) above number =
    let bits = total widths in
    let e : above * 2 ^ (width + bits) + number ≡ above * 2 ^ width * 2 ^ bits + number = rw (pow-add, mul_assoc) in
    rw (e, mul-add-div_right (pow_pos bits), mul-add-mod_self_right, split_above widths (above * 2 ^ width) number)

split_zero : (widths : List ℕ) → split widths 0 ≡ padded widths []
split_zero [] = refl
split_zero (width ∷ widths) = rw (zero-div, zero-mod, split_zero widths)

pub split_fits : (widths : List ℕ) (number : ℕ) → Fit widths (split widths number)
split_fits [] number = tt
split_fits (width ∷ widths) number = (mod-lt (number / 2 ^ total widths) (pow_pos width), split_fits widths number)

pub split_join_padded : (widths values : List ℕ) → Fit widths values → split widths (join widths values) ≡ padded widths values
split_join_padded [] values fit = refl
split_join_padded (width ∷ widths) [] fit = split_zero (width ∷ widths)
split_join_padded (width ∷ widths) (value ∷ values) fit =
    let low = join_below widths values fit.1 in
    rw (high value (total widths) low, mod-eq_of_lt fit.0, split_above widths value, split_join_padded widths values fit.1)

pub split_join : (widths values : List ℕ) → Fit widths values → length values ≡ length widths → split widths (join widths values) ≡ values
split_join widths values fit full = split_join_padded widths values fit ∙ padded_full widths values full

-- the fields alone, whatever stands above them
pub join_split_below : (widths : List ℕ) (number : ℕ) → join widths (split widths number) ≡ number % 2 ^ total widths
join_split_below [] number = sym (mod-one number)
join_split_below (width ∷ widths) number = rw (join_split_below widths number, mod-pow-add)

pub join_split : (widths : List ℕ) (number : ℕ) → number < 2 ^ total widths → join widths (split widths number) ≡ number
join_split widths number below = join_split_below widths number ∙ mod-eq_of_lt below
