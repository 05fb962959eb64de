-- The set cells as a number, cell after cell.
use Prim.Native.Nat.{ℕ, suc, ◌+◌, ◌-◌, ◌*◌, ◌/◌, ◌%◌, ◌^◌, ◌<◌}
use mathlib.Core.Path.{◌≡◌, sym, fun_ext}
use mathlib.Core.Bool.{Bool, true, false, cond}
use mathlib.Core.List.{List}
use native.Mathlib.Decide.{ℕ_discrete, dec_lt}
use native.Mathlib.Nat.{lt_of_lt_of_le, div-one, pow-suc}
use native.Mathlib.Numerals.{add-one}
use native.Mathlib.Omega.{arith}
use lib.Dec.{eqb}
use lib.ListN.{length, get_or, get_or-eq_default}
use lib.Pow.{pow_mono, shr-shr}
use lib.Seq.{set-get_or, get_or-set_same}
use borrow.Author.Tests.{lt-ltb, le-ltb, eq-eqb, ne_eqb}
use Rattle.stores.specs.Cells.{is_set, unset}
use Rattle.knowing.specs.Known.{known}

-- a bit for each cell below one, the last at the end
pub record KnownBelow (cells : List ℕ) (mask cell : ℕ) : Type 0 where
  pub few : mask < 2 ^ cell
  pub at : (v : ℕ) → v < cell → eqb (mask / 2 ^ (cell - 1 - v) % 2) 1 ≡ is_set (get_or cells v unset)

pub known_none : {cells : List ℕ} → KnownBelow cells 0 0
known_none = record { few = omega arith; at = λ v below. absurd (omega arith) }

-- a bit behind a number
module _ (mask : ℕ) where
  half : (b : Bool) → (2 * mask + cond b 1 0) / 2 ^ 1 ≡ mask
  half true = omega arith
  half false = omega arith

  last : (b : Bool) → eqb ((2 * mask + cond b 1 0) % 2) 1 ≡ b
  last true = eq-eqb ((2 * mask + 1) % 2) 1 (omega arith)
  last false = ne_eqb ((2 * mask + 0) % 2) 1 λ e. omega arith

  bound : (cell : ℕ) (b : Bool) → mask < 2 ^ cell → 2 * mask + cond b 1 0 < 2 ^ suc cell
  bound cell true few = rw (pow-suc 2 cell) (omega arith)
  bound cell false few = rw (pow-suc 2 cell) (omega arith)

module _ {cells : List ℕ} {mask cell : ℕ} (before : KnownBelow cells mask cell) where
  -- there is room for one more
  pub known_room : cell < 64 → mask < 2 ^ 63
  known_room low = lt_of_lt_of_le before.few (pow_mono {i = cell} {j = 63} (omega arith))

  -- what is read in place, whatever stands for a cell that is not there
  in_place : cell < length cells → get_or cells cell 0 ≡ get_or cells cell unset
  in_place inside = sym (rw (set-get_or cells cell 0) at (get_or-set_same cells cell (get_or cells cell 0) unset inside))

  pub known_more : {more : ℕ} → cell < length cells → more ≡ 2 * mask + cond (is_set (get_or cells cell 0)) 1 0 → KnownBelow cells more (cell + 1)
  known_more {more} inside read = rw add-one (record { few = rw e (bound mask cell (is_set (get_or cells cell unset)) before.few); at = λ v below. by v below (ℕ_discrete cell v) })
    where
      e : more ≡ 2 * mask + cond (is_set (get_or cells cell unset)) 1 0
      e = rw (← in_place inside) read

      by : (v : ℕ) → v < suc cell → Dec (cell ≡ v) → eqb (more / 2 ^ (suc cell - 1 - v) % 2) 1 ≡ is_set (get_or cells v unset)
      by v below (yes same) =
          let zero_left : suc cell - 1 - v ≡ 0 = omega arith in
          rw (zero_left, ← same, e, div-one) (last mask (is_set (get_or cells cell unset)))
      by v below (no other) =
          let up : suc cell - 1 - v ≡ 1 + (cell - 1 - v) = omega (arith, other) in
          rw (up, ← shr-shr more 1 (cell - 1 - v), e, half mask (is_set (get_or cells cell unset))) (before.at v (omega (arith, other)))

  pub known_all : cell ≡ 64 → length cells ≡ 64 → known mask ≡ (λ v. is_set (get_or cells v unset))
  unfolding known
  known_all end long = fun_ext (λ v. by v (dec_lt v 64))
    where
      by : (v : ℕ) → Dec (v < 64) → known mask v ≡ is_set (get_or cells v unset)
      by v (yes l) = let all : KnownBelow cells mask 64 = rw end at before in rw (lt-ltb v 64 l) (all.at v l)
      by v (no g) = rw (le-ltb v 64 (omega (arith, g)), get_or-eq_default cells unset {n = v} (omega (arith, g)))
