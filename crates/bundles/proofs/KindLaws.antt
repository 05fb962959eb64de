-- The kinds of a bundle: two are a byte.
use Prim.Native.Nat.{ℕ, zero, suc, ◌+◌, ◌*◌, ◌/◌, ◌%◌, ◌^◌, ◌<◌, ◌≤◌}
use mathlib.Core.Path.{◌≡◌, refl, sym, ◌∙◌, ap, ap₂}
use mathlib.Core.List.{List, [], ◌∷◌, ◌++◌, append_assoc, flat_map}
use native.Mathlib.Nat.{div-add-mod'}
use native.Mathlib.Numerals.{add-one}
use native.Mathlib.Omega.{arith}
use lib.ListN.{length, get_or, take, drop, set, replicate, length-set, length-append, length-drop, length-replicate}
use lib.Pow.{pow-add}
use lib.Seq.{sets-eq, take_at, take-suc, take-add, drop-drop, drop-append-add, get_or-drop, length-take-le}
use Rattle.word.specs.Bytes.{number, words, elements}
use Rattle.word.specs.Fields.{total, split, join}
use Rattle.word.proofs.ByteLaws.{Below, below_take}
use Rattle.word.proofs.FieldLaws.{Fit, split_join}
use Rattle.bundles.specs.Bundle.{kinds_of}
use Rattle.bundles.proofs.WordLaws.{below_drop, the_words}

abbrev pub nibbles : List ℕ → List ℕ
nibbles [] = []
nibbles (byte ∷ rest) = byte / 16 ∷ byte % 16 ∷ nibbles rest

twice : (n : ℕ) → 2 * suc n ≡ suc (suc (2 * n))
twice n = omega arith

bits : (n : ℕ) → 2 ^ total (replicate (2 * n) 4) ≡ 256 ^ n
bits zero = refl
bits (suc n) = let low = total (replicate (2 * n) 4) in rw (twice n, pow-add 2 4 (4 + low), pow-add 2 4 low, bits n) (omega arith)

nibbles_join : (bytes : List ℕ) → join (replicate (2 * length bytes) 4) (nibbles bytes) ≡ number bytes
unfolding number
nibbles_join [] = refl
nibbles_join (byte ∷ rest) =
    rw (twice (length rest), nibbles_join rest, pow-add, bits (length rest))
    (omega (arith, ap (◌* 256 ^ length rest) (div-add-mod' byte 16)))

nibbles_fit : (bytes : List ℕ) → Below 256 bytes → Fit (replicate (2 * length bytes) 4) (nibbles bytes)
nibbles_fit [] below = tt
nibbles_fit (byte ∷ rest) below = rw (twice (length rest)) (omega (arith, below 0), (omega arith, nibbles_fit rest λ place. below (suc place)))

length_nibbles : (bytes : List ℕ) → length (nibbles bytes) ≡ 2 * length bytes
length_nibbles [] = refl
length_nibbles (byte ∷ rest) = rw (twice (length rest), length_nibbles rest)

bytes_kinds : (bytes : List ℕ) → Below 256 bytes → split (replicate (2 * length bytes) 4) (number bytes) ≡ nibbles bytes
bytes_kinds bytes below =
    ap (split (replicate (2 * length bytes) 4)) (sym (nibbles_join bytes))
    ∙ split_join _ _ (nibbles_fit bytes below) (length_nibbles bytes ∙ sym (length-replicate (2 * length bytes) 4))

nibbles_append : (first later : List ℕ) → nibbles (first ++ later) ≡ nibbles first ++ nibbles later
nibbles_append [] later = refl
nibbles_append (byte ∷ first) later = ap (λ (more : List ℕ). byte / 16 ∷ byte % 16 ∷ more) (nibbles_append first later)

words_kinds : (count : ℕ) (bytes : List ℕ) → 8 * count ≤ length bytes → Below 256 bytes → kinds_of (words 8 count bytes) ≡ nibbles (take (8 * count) bytes)
unfolding words flat_map
words_kinds zero bytes long below = refl
words_kinds (suc count) bytes long below =
    let all : 8 * suc count ≡ 8 + 8 * count = omega arith in
    let first : split (replicate 16 4) (number (take 8 bytes)) ≡ nibbles (take 8 bytes) =
    rw (length-take-le 8 bytes (omega arith)) at (bytes_kinds (take 8 bytes) (below_take 256 8 bytes below)) in
    ap₂ ◌++◌ first (words_kinds count (drop 8 bytes) (simp length-drop (omega arith)) (below_drop 256 8 bytes below))
    ∙ rw (all, take-add) (sym (nibbles_append (take 8 bytes) (take (8 * count) (drop 8 bytes))))

-- so many bytes have been read
pub record KindsRead (bytes before : List ℕ) (start : ℕ) (kinds : List ℕ) (place : ℕ) : Type 0 where
  pub within : place ≤ 32
  pub known : 0 < place → Below 256 bytes
  pub long : length kinds ≡ length before
  pub read : kinds ≡ nibbles (take place (drop start bytes)) ++ drop (2 * place) before

pub kinds_none : (bytes before : List ℕ) (start : ℕ) → KindsRead bytes before start before 0
kinds_none bytes before start = record { within = omega arith; known = λ some. absurd (omega arith); long = refl; read = refl }

-- two stores where the rest begins
two_set : (done before : List ℕ) (at a b : ℕ) → length done ≡ at → at + 2 ≤ length before
    → set (set (done ++ drop at before) at a) (at + 1) b ≡ done ++ (a ∷ b ∷ drop (at + 2) before)
two_set done before at a b here room =
    rw add-one (
    sets-eq (a ∷ b ∷ []) (done ++ drop at before) at (simp (length-append, length-drop) (omega arith))
    ∙ rw (take_at done (drop at before) at here, ← here, drop-append-add, drop-drop, append_assoc)
    )

pub kinds_more : (bytes before kinds : List ℕ) (start place : ℕ) → start + 32 ≤ length bytes → 64 ≤ length before → Below 256 bytes → place < 32
    → KindsRead bytes before start kinds place
    → KindsRead bytes before start (set (set kinds (2 * place) (get_or bytes (start + place) 0 / 16)) (2 * place + 1) (get_or bytes (start + place) 0 % 16)) (place + 1)
kinds_more bytes before kinds start place long room below more so_far =
    let left = drop start bytes in
    let byte = get_or bytes (start + place) 0 in
    let enough : place < length left = simp length-drop (omega arith) in
    let here : length (nibbles (take place left)) ≡ 2 * place = length_nibbles (take place left) ∙ ap (2 *◌) (length-take-le place left (omega arith)) in
    let next : 2 * place + 2 ≡ 2 * (place + 1) = omega arith in
    record {
      within = omega arith;
      known = λ some. below;
      long = simp length-set so_far.long;
      read =
          rw (so_far.read, two_set (nibbles (take place left)) before (2 * place) (byte / 16) (byte % 16) here (omega arith), next)
          (rw (add-one, take-suc left place 0 enough, get_or-drop, nibbles_append, append_assoc));
    }

pub kinds_all : (bytes before kinds : List ℕ) (from place : ℕ) → 8 * (from + 4) ≤ length bytes → 32 ≤ place
    → KindsRead bytes before (8 * from) kinds place → kinds ≡ kinds_of (take 4 (drop from (elements 8 bytes))) ++ drop 64 before
kinds_all bytes before kinds from place fits all so_far =
    let here : place ≡ 32 = omega arith in
    let four = words_kinds 4 (drop (8 * from) bytes) (simp length-drop (omega arith)) (below_drop 256 (8 * from) bytes (so_far.known (omega arith))) in
    so_far.read ∙ rw (here, the_words bytes from 4 fits, four)
