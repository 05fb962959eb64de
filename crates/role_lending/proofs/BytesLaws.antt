-- Words' bytes in front of lent bytes, and at their place among others'.
use mathlib.Core.Path.{◌≡◌, sym, ◌∙◌, ap}
use mathlib.Core.List.{List, [], ◌∷◌, ◌++◌, append-nil}
use Prim.Native.Nat.{ℕ, zero, suc, ◌+◌, ◌*◌, ◌≤◌}
use native.Mathlib.Nat.{mul-zero}
use native.Mathlib.Omega.{arith}
use lib.ListN.{length, take, drop, take-append-drop}
use lib.Seq.{length-take-le, take_at, drop-nil, drop-append-add, sets, sets-eq}
use Rattle.word.specs.Bytes.{bytes_of, elements, spelled}
use Rattle.word.proofs.ByteLaws.{length_bytes_of, length_spelled, spelled_append}

drop_spelled : (size n : ℕ) (words : List ℕ) → drop (size * n) (spelled size words) ≡ spelled size (drop n words)
unfolding spelled
drop_spelled size zero words = rw mul-zero
drop_spelled size (suc n) [] = drop-nil (size * suc n)
drop_spelled size (suc n) (word ∷ words) =
    let past : size * suc n ≡ length (bytes_of size word) + size * n = omega (arith, length_bytes_of size word) in
    ap (λ (k : ℕ). drop k (bytes_of size word ++ spelled size words)) past
    ∙ drop-append-add (bytes_of size word) (spelled size words) (size * n)
    ∙ drop_spelled size n words

-- the bytes behind are those of the elements behind
pub laid_bytes : (size : ℕ) (words bytes : List ℕ) → spelled size (elements size bytes) ≡ bytes
    → spelled size words ++ drop (length (spelled size words)) bytes ≡ spelled size (words ++ drop (length words) (elements size bytes))
laid_bytes size words bytes same =
    ap (λ (k : ℕ). spelled size words ++ drop k bytes) (length_spelled size words)
    ∙ ap (λ (l : List ℕ). spelled size words ++ drop (size * length words) l) (sym same)
    ∙ ap (spelled size words ++◌) (drop_spelled size (length words) (elements size bytes))
    ∙ sym (spelled_append size words (drop (length words) (elements size bytes)))

module _ (size : ℕ) (words : List ℕ) (n : ℕ) (inside : n ≤ length words) where
  take_spelled : take (size * n) (spelled size words) ≡ spelled size (take n words)
  take_spelled =
      ap (take (size * n)) (ap (spelled size) (sym (take-append-drop n words)) ∙ spelled_append size (take n words) (drop n words))
      ∙ take_at (spelled size (take n words)) (spelled size (drop n words)) (size * n) (length_spelled size (take n words) ∙ ap (size *◌) (length-take-le n words inside))

module _ (size : ℕ) (all : List ℕ) (place : ℕ) (words : List ℕ) (fits : place + length words ≤ length all) (sum : size * place + size * length words ≡ size * (place + length words))
    (room : size * (place + length words) ≤ size * length all) where
  pub bytes_sets : sets (spelled size all) (size * place) (spelled size words) ≡ spelled size (sets all place words)
  bytes_sets =
      let long : size * place + length (spelled size words) ≡ size * (place + length words) = ap (size * place +◌) (length_spelled size words) ∙ sum in
      sets-eq (spelled size words) (spelled size all) (size * place) (rw (long, length_spelled size all) room)
      ∙ ap (λ (n : ℕ). take (size * place) (spelled size all) ++ spelled size words ++ drop n (spelled size all)) long
      ∙ ap (λ (l : List ℕ). l ++ spelled size words ++ drop (size * (place + length words)) (spelled size all)) (take_spelled size all place (omega arith))
      ∙ ap (λ (l : List ℕ). spelled size (take place all) ++ spelled size words ++ l) (drop_spelled size (place + length words) all)
      ∙ sym (ap (spelled size) (sets-eq words all place fits) ∙ spelled_append size (take place all ++ words) (drop (place + length words) all)
      ∙ ap (◌++ spelled size (drop (place + length words) all)) (spelled_append size (take place all) words))

-- one number
pub one_spelled : (size number : ℕ) → bytes_of size number ≡ spelled size (number ∷ [])
unfolding spelled
one_spelled size number = sym (append-nil (bytes_of size number))
