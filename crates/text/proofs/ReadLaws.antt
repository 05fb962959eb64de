-- What is printed is read back, and what is read was printed.
use Prim.Native.Nat.{ℕ, zero, suc, ◌+◌, ◌*◌, ◌-◌, ◌/◌, ◌%◌, ◌^◌, ◌<◌, ◌≤◌}
use mathlib.Core.Path.{◌≡◌, refl, sym, ◌∙◌, ap}
use mathlib.Core.Logic.{◌⊎◌, inl, inr}
use mathlib.Core.Bool.{Bool, true, false, not, ◌&&◌}
use Rattle.std.specs.Prelude.{Option, None, Some}
use mathlib.Core.List.{List, [], ◌∷◌, ◌++◌, append_assoc}
use native.Mathlib.Omega.{arith}
use borrow.Author.Tests.{le-leb, ne_eqb, eq-eqb, leb-true, eqb-true, eqb-false}
use lib.Dec.{leb, eqb}
use Rattle.word.proofs.ScanLaws.{lt_or_ge}
use Rattle.text.specs.Lines.{digit, digits, decimal}
use Rattle.text.specs.Readers.{TextFront, front, is_digit, digits_on, read_number}
use Rattle.text.proofs.DigitLaws.{last_digit, more_digits}

-- ---- a digit

digit_passes : (d : ℕ) → d < 10 → is_digit (digit d) ≡ true
digit_passes d small =
    let low : leb 48 (48 + d) ≡ true = le-leb 48 (48 + d) (omega arith) in
    let high : leb (48 + d) 57 ≡ true = le-leb (48 + d) 57 (omega arith) in
    rw (low, high)

pub digit_bounds : (byte : ℕ) → is_digit byte ≡ true → (48 ≤ byte) × (byte ≤ 57)
digit_bounds byte is = go (leb 48 byte) (leb byte 57) refl refl is
  where
    go : (low high : Bool) → leb 48 byte ≡ low → leb byte 57 ≡ high → (low && high) ≡ true → (48 ≤ byte) × (byte ≤ 57)
    go true true low high e = (leb-true 48 byte low, leb-true byte 57 high)
    go true false low high e = let clash : ◌≡◌ {A = ℕ} 0 1 = cc in absurd (omega arith)
    go false high low e f = let clash : ◌≡◌ {A = ℕ} 0 1 = cc in absurd (omega arith)

-- ---- what is printed is read

module _ (most end : ℕ) (ends : is_digit end ≡ false) where
  digit_on : (value d : ℕ) (rest : List ℕ) → value ≤ most → 0 < value → d < 10
      → digits_on most end value (digit d ∷ rest) ≡ digits_on most end (value * 10 + d) rest
  unfolding digits_on
  digit_on value d rest fits nonzero small =
      let other : digit d ≡ end → ⊥ = λ same. let clash : ◌≡◌ {A = ℕ} 0 1 = cc (digit_passes d small) in omega arith in
      let worth : 48 + d - 48 ≡ d = omega arith in
      rw (le-leb value most fits, ne_eqb (digit d) end other, digit_passes d small, ne_eqb value 0 (λ e. omega arith), worth, digits_on)

  first_digit : (n : ℕ) (rest : List ℕ) → n < 10 → read_number most end (digit n ∷ rest) ≡ digits_on most end n rest
  unfolding read_number
  first_digit n rest small = let worth : 48 + n - 48 ≡ n = omega arith in rw (digit_passes n small, worth, read_number)

  -- up to the byte that ends it
  digits_read : (k n : ℕ) (rest : List ℕ) → n < 10 ^ suc k → n ≤ most → read_number most end (digits (suc k) n ++ rest) ≡ digits_on most end n rest
  digits_read zero n rest below fits = rw (last_digit 1 n (λ e. omega arith) below) (first_digit n rest below)
  digits_read (suc k) n rest below fits = go (lt_or_ge n 10) (digits_read k (n / 10) (digit (n % 10) ∷ rest))
    where
      go : (n < 10) ⊎ (10 ≤ n) → (n / 10 < 10 ^ suc k → n / 10 ≤ most → read_number most end (digits (suc k) (n / 10) ++ (digit (n % 10) ∷ rest)) ≡ digits_on most end (n / 10) (digit (n % 10) ∷ rest))
          → read_number most end (digits (suc (suc k)) n ++ rest) ≡ digits_on most end n rest
      go (inl small) high = rw (last_digit (suc (suc k)) n (λ e. omega arith) small) (first_digit n rest small)
      go (inr large) high =
          let worth : n / 10 * 10 + n % 10 ≡ n = omega arith in
          let fewer : suc (suc k) - 1 ≡ suc k = omega arith in
          rw (more_digits (suc (suc k)) n (λ e. omega arith) large, fewer, append_assoc)
          (high (omega arith) (omega arith) ∙ digit_on (n / 10) (n % 10) rest (omega arith) (omega arith) (omega arith) ∙ rw worth)

  pub number_printed : (n : ℕ) (rest : List ℕ) → n ≤ most → n < 10 ^ 20 → read_number most end (decimal n ++ (end ∷ rest)) ≡ Some (front n rest)
  unfolding decimal digits_on
  number_printed n rest fits below = digits_read 19 n (end ∷ rest) below fits ∙ rw (le-leb n most fits, eq-eqb end end refl, digits_on)

-- ---- what is read was printed

-- so many digits are enough
enough : (k n : ℕ) → n < 10 ^ suc k → digits (suc (suc k)) n ≡ digits (suc k) n
enough zero n below = last_digit 2 n (λ e. omega arith) below ∙ sym (last_digit 1 n (λ e. omega arith) below)
enough (suc k) n below = go (lt_or_ge n 10) (enough k (n / 10))
  where
    go : (n < 10) ⊎ (10 ≤ n) → (n / 10 < 10 ^ suc k → digits (suc (suc k)) (n / 10) ≡ digits (suc k) (n / 10)) → digits (suc (suc (suc k))) n ≡ digits (suc (suc k)) n
    go (inl small) high = last_digit (suc (suc (suc k))) n (λ e. omega arith) small ∙ sym (last_digit (suc (suc k)) n (λ e. omega arith) small)
    go (inr large) high =
        let fewer : suc (suc k) - 1 ≡ suc k = omega arith in
        let fewest : suc (suc (suc k)) - 1 ≡ suc (suc k) = omega arith in
        rw (more_digits (suc (suc (suc k))) n (λ e. omega arith) large, more_digits (suc (suc k)) n (λ e. omega arith) large, fewer, fewest)
        (ap (λ (front : List ℕ). front ++ (digit (n % 10) ∷ [])) (high (omega arith)))

digit_more : (value d : ℕ) → 0 < value → d < 10 → value * 10 + d < 10 ^ 20 → decimal (value * 10 + d) ≡ decimal value ++ (digit d ∷ [])
unfolding decimal
digit_more value d nonzero small below =
    let high : (value * 10 + d) / 10 ≡ value = omega arith in
    let low : (value * 10 + d) % 10 ≡ d = omega arith in
    more_digits 20 (value * 10 + d) (λ e. omega arith) (omega arith) ∙ rw (high, low) (ap (λ (front : List ℕ). front ++ (digit d ∷ [])) (sym (enough 18 value (omega arith))))

-- the text that was read in front: a number, then the byte that ends it
pub record Spelled (most end least : ℕ) (text : List ℕ) (number : TextFront ℕ) : Type 0 where
  pub bytes : text ≡ decimal number.value ++ (end ∷ number.rest)
  pub fits : number.value ≤ most
  pub reaches : least ≤ number.value

module _ (most end : ℕ) (below : most < 10 ^ 20) where
  digits_went_on : (rest : List ℕ) (value : ℕ) {number : TextFront ℕ} → digits_on most end value rest ≡ Some number → Spelled most end value (decimal value ++ rest) number
  unfolding digits_on
  digits_went_on [] value e = let clash : ◌≡◌ {A = ℕ} 0 1 = cc in absurd (omega arith)
  digits_went_on (byte ∷ rest) value {number} e =
      go (leb value most) (eqb byte end) (is_digit byte) (eqb value 0) refl refl refl refl (λ f. digits_went_on rest (value * 10 + (byte - 48)) {number = number} f) e
    where
      go : (fits ended goes none_left : Bool) → leb value most ≡ fits → eqb byte end ≡ ended → is_digit byte ≡ goes → eqb value 0 ≡ none_left
          → (digits_on most end (value * 10 + (byte - 48)) rest ≡ Some number → Spelled most end (value * 10 + (byte - 48)) (decimal (value * 10 + (byte - 48)) ++ rest) number)
          → elim fits as (λ _. Option (TextFront ℕ)) [
            | true ↦ elim ended [
              | true ↦ Some (front value rest)
              | false ↦ elim (goes && not none_left) [ true ↦ digits_on most end (value * 10 + (byte - 48)) rest | false ↦ None ]
            ]
            | false ↦ None
          ] ≡ Some number
          → Spelled most end value (decimal value ++ (byte ∷ rest)) number
      go true true goes none_left fits ended is zeroes more e =
          let same : front value rest ≡ number = cc in
          rw (← same) (record { bytes = rw (eqb-true byte end ended); fits = leb-true value most fits; reaches = omega arith })
      go true false true false fits ended is zeroes more e =
          let told = more e in
          let bounds = digit_bounds byte is in
          let worth : byte ≡ 48 + (byte - 48) = omega (arith, bounds.0) in
          let some_left : value ≡ 0 → ⊥ = eqb-false value 0 zeroes in
          let longer : decimal (value * 10 + (byte - 48)) ≡ decimal value ++ (digit (byte - 48) ∷ []) =
          digit_more value (byte - 48) (omega arith) (omega (arith, bounds.1)) (omega (arith, told.fits, told.reaches)) in
          record { bytes = ap (λ (b : ℕ). decimal value ++ (b ∷ rest)) worth ∙ rw (longer, append_assoc) at told.bytes; fits = told.fits; reaches = omega (arith, told.reaches) }
      go true false true true fits ended is zeroes more e = let clash : ◌≡◌ {A = ℕ} 0 1 = cc in absurd (omega arith)
      go true false false none_left fits ended is zeroes more e = let clash : ◌≡◌ {A = ℕ} 0 1 = cc in absurd (omega arith)
      go false ended goes none_left fits e is zeroes more f = let clash : ◌≡◌ {A = ℕ} 0 1 = cc in absurd (omega arith)

  pub number_read : (text : List ℕ) {number : TextFront ℕ} → read_number most end text ≡ Some number → Spelled most end 0 text number
  unfolding read_number decimal
  number_read [] e = let clash : ◌≡◌ {A = ℕ} 0 1 = cc in absurd (omega arith)
  number_read (byte ∷ rest) {number} e = go (is_digit byte) refl e
    where
      go : (is : Bool) → is_digit byte ≡ is → elim is as (λ _. Option (TextFront ℕ)) [ true ↦ digits_on most end (byte - 48) rest | false ↦ None ] ≡ Some number → Spelled most end 0 (byte ∷ rest) number
      go true is e =
          let bounds = digit_bounds byte is in
          let told = digits_went_on rest (byte - 48) e in
          let worth : byte ≡ 48 + (byte - 48) = omega (arith, bounds.0) in
          let one : decimal (byte - 48) ≡ digit (byte - 48) ∷ [] = last_digit 20 (byte - 48) (λ e. omega arith) (omega (arith, bounds.1)) in
          record { bytes = ap (λ (b : ℕ). b ∷ rest) worth ∙ rw one at told.bytes; fits = told.fits; reaches = omega arith }
      go false is e = let clash : ◌≡◌ {A = ℕ} 0 1 = cc in absurd (omega arith)
