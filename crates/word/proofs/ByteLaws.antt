-- Numbers as bytes and back, each law once over the size.
use Prim.Native.Nat.{ℕ, zero, suc, ◌+◌, ◌*◌, ◌/◌, ◌%◌, ◌^◌, ◌≤◌, ◌<◌}
use mathlib.Core.Path.{◌≡◌, refl, sym, ◌∙◌, ap, ap₂}
use mathlib.Core.List.{List, [], ◌∷◌, ◌++◌, append_assoc, append-nil}
use native.Mathlib.Nat.{pow-succ', one-le-pow, mul-add-mod_self_right, mul-add-div_right, mod-one, mod-eq_of_lt, div-add-mod, div-add-mod', mul-le-mul_left, div-div-eq-div-mul, add_comm, add_assoc, add-zero, zero-add, suc-add, add-suc, mul-zero, mul-suc, mul-div_right}
use native.Mathlib.Numerals.{add-one}
use native.Mathlib.Omega.{arith}
use lib.Arith.{mod-mul, digits_div, digits_lt}
use lib.Dec.{T, eqb→eq}
use lib.ListN.{length, get_or, set, take, drop, length-append, length-drop, length-set, take-append-drop, drop_of_length-le}
use lib.Seq.{sets, sets-eq, take_at, drop_at, set_at, take-add, take-suc, drop-cons, drop-drop, drop-append-add, append_snoc, take-append_seam, take_all, length-take-le, take-length, length-sets, get_or-drop}
use lib.Pow.{pow-add}
use Rattle.word.specs.Bytes.{number, bytes_of, words, spelled, whole, elements}

-- each element is below a limit
abbrev pub Below : ℕ → List ℕ → Type 0
Below limit values = (place : ℕ) → get_or values place 0 < limit

pub below_take : (limit count : ℕ) (values : List ℕ) → Below limit values → Below limit (take count values)
below_take limit zero values below place = omega (arith, below place)
below_take limit (suc count) [] below place = below place
below_take limit (suc count) (value ∷ values) below zero = below zero
below_take limit (suc count) (value ∷ values) below (suc place) = below_take limit count values (λ p. below (suc p)) place

room : (size : ℕ) → 0 < 256 ^ size
room size = one-le-pow size 256 (omega arith)

pub length_bytes_of : (size n : ℕ) → length (bytes_of size n) ≡ size
unfolding bytes_of
length_bytes_of zero n = refl
length_bytes_of (suc size) n = ap suc (length_bytes_of size n)

pub length_words : (size count : ℕ) (bytes : List ℕ) → length (words size count bytes) ≡ count
unfolding words
length_words size zero bytes = refl
length_words size (suc count) bytes = ap suc (length_words size count (drop size bytes))

pub length_spelled : (size : ℕ) (values : List ℕ) → length (spelled size values) ≡ size * length values
unfolding spelled
length_spelled size [] = sym (mul-zero size)
length_spelled size (value ∷ values) = rw (length-append, length_bytes_of, length_spelled size values) (omega arith)

-- bytes in two parts: the first counts by the power of 256 that the second has room for
pub number_append : (high low : List ℕ) → number (high ++ low) ≡ number high * 256 ^ length low + number low
unfolding number
number_append [] low = omega arith
number_append (byte ∷ high) low = rw (number_append high low, length-append high low, pow-add) (omega arith)

pub number_split : (high low : ℕ) (bytes : List ℕ) (at : ℕ) → at + (high + low) ≤ length bytes
    → number (take high (drop at bytes)) * 256 ^ low + number (take low (drop (at + high) bytes)) ≡ number (take (high + low) (drop at bytes))
number_split high low bytes at fits =
    let long : length (take low (drop (at + high) bytes)) ≡ low = length-take-le low (drop (at + high) bytes) (simp length-drop (omega arith)) in
    rw (take-add, number_append, drop-drop, long)

-- two bytes
pub number_pair : (bytes : List ℕ) (at : ℕ) → at + 2 ≤ length bytes
    → get_or bytes at 0 * 256 + get_or bytes (at + 1) 0 ≡ number (take 2 (drop at bytes))
unfolding number
number_pair bytes at fits = rw (drop-cons bytes at 0 (omega arith), drop-cons bytes (suc at) 0 (omega arith), add-one) (omega arith)

-- eight bytes
pub number_word : (bytes : List ℕ) (at : ℕ) → at + 8 ≤ length bytes
    → number (take 2 (drop at bytes)) * 281474976710656 + number (take 2 (drop (at + 2) bytes)) * 4294967296
    + number (take 2 (drop (at + 4) bytes)) * 65536 + number (take 2 (drop (at + 6) bytes)) ≡ number (take 8 (drop at bytes))
number_word bytes at fits =
    let last = number_split 2 2 bytes (at + 4) (omega arith) in
    let middle = number_split 2 4 bytes (at + 2) (omega arith) in
    omega (arith, simp add_assoc at last, simp add_assoc at middle, number_split 2 6 bytes at (omega arith))

-- what is above the bytes is not written
bytes_of_low : (size high low : ℕ) → bytes_of size (high * 256 ^ size + low) ≡ bytes_of size low
unfolding bytes_of
bytes_of_low zero high low = refl
bytes_of_low (suc size) high low =
    let shift : high * 256 ^ suc size + low ≡ high * 256 * 256 ^ size + low = rw pow-succ' (omega arith) in
    rw (shift, mul-add-div_right (room size), mul-add-mod_self_right, bytes_of_low size (high * 256) low)

pub bytes_of_mod : (size n : ℕ) → bytes_of size (n % 256 ^ size) ≡ bytes_of size n
bytes_of_mod size n = sym (bytes_of_low size (n / 256 ^ size) (n % 256 ^ size)) ∙ ap (bytes_of size) (div-add-mod' n (256 ^ size))

pub bytes_of_add : (high low n : ℕ) → bytes_of (high + low) n ≡ bytes_of high (n / 256 ^ low) ++ bytes_of low n
unfolding bytes_of
bytes_of_add zero low n = ap (λ (k : ℕ). bytes_of k n) (zero-add low)
bytes_of_add (suc high) low n = rw (suc-add, bytes_of_add high low n, add_comm high low, pow-add, div-div-eq-div-mul)

-- one number there and back
number_bytes_of_mod : (size n : ℕ) → number (bytes_of size n) ≡ n % 256 ^ size
unfolding number bytes_of
number_bytes_of_mod zero n = sym (mod-one n)
number_bytes_of_mod (suc size) n =
    rw (length_bytes_of size n, number_bytes_of_mod size n, pow-succ') (sym (mod-mul n (omega arith) (room size)))

pub number_bytes_of : (size n : ℕ) → n < 256 ^ size → number (bytes_of size n) ≡ n
number_bytes_of size n fits = number_bytes_of_mod size n ∙ mod-eq_of_lt fits

pub number_lt : (bytes : List ℕ) → Below 256 bytes → number bytes < 256 ^ length bytes
unfolding number
number_lt [] below = omega arith
number_lt (byte ∷ bytes) below =
    rw pow-succ' (digits_lt (below 0) (number_lt bytes (λ place. below (suc place))))

pub bytes_of_number : (bytes : List ℕ) → Below 256 bytes → bytes_of (length bytes) (number bytes) ≡ bytes
unfolding number bytes_of
bytes_of_number [] below = refl
bytes_of_number (byte ∷ bytes) below =
    ap₂ ◌∷◌
    (ap (λ (k : ℕ). k % 256) (digits_div byte (number_lt bytes (λ place. below (suc place)))) ∙ mod-eq_of_lt (below 0))
    (bytes_of_low (length bytes) byte (number bytes) ∙ bytes_of_number bytes (λ place. below (suc place)))

pub spelled_append : (size : ℕ) (first later : List ℕ) → spelled size (first ++ later) ≡ spelled size first ++ spelled size later
unfolding spelled
spelled_append size [] later = refl
spelled_append size (value ∷ first) later = rw (spelled_append size first later, append_assoc)

words_more : (size count : ℕ) (bytes : List ℕ)
    → words size (suc count) bytes ≡ words size count bytes ++ number (take size (drop (size * count) bytes)) ∷ []
unfolding words
words_more size zero bytes = rw mul-zero
words_more size (suc count) bytes = rw (words_more size count (drop size bytes), drop-drop, mul-suc, add_comm size)

-- many numbers there and back
pub words_spelled : (size : ℕ) (values : List ℕ) → Below (256 ^ size) values → words size (length values) (spelled size values) ≡ values
unfolding words spelled
words_spelled size [] below = refl
words_spelled size (value ∷ values) below =
    rw (
      take_at (bytes_of size value) (spelled size values) size (length_bytes_of size value),
      drop_at (bytes_of size value) (spelled size values) size (length_bytes_of size value),
      number_bytes_of size value (below 0),
      words_spelled size values (λ place. below (suc place)),
    )

pub spelled_words : (size count : ℕ) (bytes : List ℕ) → length bytes ≡ size * count → Below 256 bytes
    → spelled size (words size count bytes) ≡ bytes
unfolding words spelled
spelled_words size zero bytes long below = take_all 0 bytes (omega arith)
spelled_words size (suc count) bytes long below =
    let first : bytes_of size (number (take size bytes)) ≡ take size bytes =
    rw (length-take-le size bytes (omega arith)) at (bytes_of_number (take size bytes) (below_take 256 size bytes below)) in
    let later : spelled size (words size count (drop size bytes)) ≡ drop size bytes =
    spelled_words size count (drop size bytes) (simp length-drop (omega arith)) (λ place. rw get_or-drop (below (size + place))) in
    rw (first, later) (take-append-drop size bytes)

-- of a slice: whole elements are written as they were read
pub elements_spelled : (size : ℕ) (values : List ℕ) → 0 < size → Below (256 ^ size) values → elements size (spelled size values) ≡ values
elements_spelled size values some below = rw (length_spelled, mul-div_right (length values) some) (words_spelled size values below)

pub spelled_elements : (size : ℕ) (bytes : List ℕ) → T (whole size bytes) → Below 256 bytes → spelled size (elements size bytes) ≡ bytes
spelled_elements size bytes exact below = spelled_words size (length bytes / size) bytes
    (omega (arith, div-add-mod (length bytes) size, eqb→eq (length bytes % size) 0 exact)) below

-- numbers stored after numbers are the two as one
pub sets_append : (bytes : List ℕ) (at : ℕ) (first later : List ℕ) → sets bytes at (first ++ later) ≡ sets (sets bytes at first) (at + length first) later
sets_append bytes at [] later = rw add-zero
sets_append bytes at (byte ∷ first) later = sets_append (set bytes at byte) (suc at) first later ∙ rw (suc-add, add-suc)

sets_seam : (before value rest : List ℕ) (at : ℕ) → length before ≡ at → length value ≤ length rest
    → sets (before ++ rest) at value ≡ before ++ value ++ drop (length value) rest
sets_seam before value rest at here fits =
    rw (← here)
    (sets-eq value (before ++ rest) (length before) (rw length-append (omega arith)) ∙ rw (take-append_seam, drop-append-add))

-- two bytes
pub sets_pair : (n : ℕ) (bytes : List ℕ) (at : ℕ) → n < 65536 → set (set bytes at (n / 256)) (at + 1) (n % 256) ≡ sets bytes at (bytes_of 2 n)
unfolding bytes_of
sets_pair n bytes at fits =
    let high : n / 256 ≡ n / 256 % 256 = omega arith in
    let low : n % 256 ≡ n / 1 % 256 = omega arith in
    rw (add-one, ← high, ← low)

-- a number is stored in two parts
pub sets_split : (high low n : ℕ) (bytes : List ℕ) (at : ℕ)
    → sets (sets bytes at (bytes_of high (n / 256 ^ low))) (at + high) (bytes_of low (n % 256 ^ low)) ≡ sets bytes at (bytes_of (high + low) n)
sets_split high low n bytes at = rw (bytes_of_mod, bytes_of_add, sets_append, length_bytes_of)

-- so many words have been read
pub record Unpacked (size : ℕ) (bytes before out : List ℕ) (count : ℕ) : Type 0 where
  pub within : count ≤ length bytes / size
  pub long : length out ≡ length before
  pub read : out ≡ words size count bytes ++ drop count before

-- so many words have been written
pub record Packed (size : ℕ) (values before bytes : List ℕ) (count : ℕ) : Type 0 where
  pub within : count ≤ length values
  pub long : length bytes ≡ length before
  pub written : bytes ≡ spelled size (take count values) ++ drop (size * count) before

pub unpacked_none : (size : ℕ) (bytes before : List ℕ) → Unpacked size bytes before before 0
unfolding words
unpacked_none size bytes before = record { within = omega arith; long = refl; read = refl }

pub unpacked_more : (size : ℕ) (bytes before out : List ℕ) (count value : ℕ) → Unpacked size bytes before out count
    → count < length bytes / size → length bytes / size ≤ length before → value ≡ number (take size (drop (size * count) bytes))
    → Unpacked size bytes before (set out count value) (count + 1)
unpacked_more size bytes before out count value so_far more fits is =
    record {
      within = omega arith;
      long = length-set out count value ∙ so_far.long;
      read =
          rw (
            add-one,
            so_far.read,
            is,
            drop-cons before count 0 (omega arith),
            set_at (words size count bytes) (get_or before count 0) (drop (suc count) before) (number (take size (drop (size * count) bytes))) count
                (length_words size count bytes),
            words_more,
            append_snoc,
          );
    }

pub unpacked_two : (size : ℕ) (bytes before out : List ℕ) (count first second : ℕ) → Unpacked size bytes before out count
    → count + 1 < length bytes / size → length bytes / size ≤ length before → first ≡ number (take size (drop (size * count) bytes))
    → second ≡ number (take size (drop (size * count + size) bytes)) → Unpacked size bytes before (set (set out count first) (count + 1) second) (count + 2)
unpacked_two size bytes before out count first second so_far more fits one other =
    let place : size * count + size ≡ size * (count + 1) = omega arith in
    let after : count + 1 + 1 ≡ count + 2 = omega arith in
    rw after at
    (unpacked_more size bytes before (set out count first) (count + 1) second (unpacked_more size bytes before out count first so_far (omega arith) fits one) more fits
    (other ∙ rw place))

pub unpacked_all : (size : ℕ) (bytes before out : List ℕ) (count : ℕ) → Unpacked size bytes before out count → length bytes / size ≤ count
    → out ≡ elements size bytes ++ drop (length bytes / size) before
unpacked_all size bytes before out count so_far all =
    let here : length bytes / size ≡ count = omega arith in
    so_far.read ∙ rw here

-- a slice that is filled has the elements alone
pub filled : (size : ℕ) (bytes before : List ℕ) → length before ≤ length bytes / size
    → elements size bytes ++ drop (length bytes / size) before ≡ elements size bytes
filled size bytes before full = rw (drop_of_length-le before full, append-nil)

pub packed_none : (size : ℕ) (values before : List ℕ) → Packed size values before before 0
unfolding spelled
packed_none size values before = record { within = omega arith; long = refl; written = rw mul-zero }

pub packed_more : (size : ℕ) (values before bytes after : List ℕ) (count : ℕ) → Packed size values before bytes count
    → count < length values → length before ≡ size * length values → after ≡ sets bytes (size * count) (bytes_of size (get_or values count 0))
    → Packed size values before after (count + 1)
unfolding spelled
packed_more size values before bytes after count so_far more fits is =
    let width = length_bytes_of size (get_or values count 0) in
    record {
      within = omega arith;
      long = rw (is, length-sets) so_far.long;
      written =
          is ∙ rw (
            so_far.written,
            sets_seam (spelled size (take count values)) (bytes_of size (get_or values count 0)) (drop (size * count) before) (size * count)
                (rw (length_spelled, length-take-le count values (omega arith)))
                (omega (arith, width, length-drop (size * count) before, mul-le-mul_left size more)),
            width,
            drop-drop,
            add-one,
            mul-suc,
            take-suc values count 0 more,
            spelled_append,
            append-nil,
          );
    }

pub packed_all : (size : ℕ) (values before bytes : List ℕ) (count : ℕ) → Packed size values before bytes count
    → length before ≡ size * length values → length values ≤ count → bytes ≡ spelled size values
packed_all size values before bytes count so_far fits all =
    let here : count ≡ length values = omega arith in
    so_far.written ∙ rw (here, take-length, drop_of_length-le before {i = size * length values} (omega arith), append-nil)

pub ruleset unpacking = (unpacked_none, unpacked_more, unpacked_two, unpacked_all)

pub ruleset packing = (packed_none, packed_more, packed_all)
