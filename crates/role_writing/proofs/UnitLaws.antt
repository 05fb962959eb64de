-- Words in a slice whose elements stand for them.
use mathlib.Core.Path.{◌≡◌, sym, ◌∙◌, ap}
use mathlib.Core.List.{List, [], ◌∷◌, ◌++◌, append_assoc}
use Prim.Native.Nat.{ℕ, suc, ◌+◌, ◌*◌, ◌/◌, ◌≤◌}
use native.Mathlib.Nat.{add-zero, add-suc, suc-add, mul-add, mul-le-mul_left, mul-div-le}
use native.Mathlib.Omega.{arith}
use borrow.Rule.Slice.PartMut.{put_mid}
use lib.ListN.{length, set, take, drop, length-append, length-drop}
use lib.Seq.{sets, sets-eq, drop-drop, drop-append-add, take-append_seam}
use Rattle.role_writing.specs.Units.{Packs}

module _ {A : Type 0} where
  -- elements written as a part, in two parts, and behind those in front
  pub part_written : (place count : ℕ) (units more : List A) → count ≡ length more → place + length more ≤ length units → put_mid place count units more ≡ sets units place more
  part_written place count units more same fits =
      rw (same, drop-drop (length more) place units) (sym (append_assoc (take place units) more (drop (place + length more) units)) ∙ sym (sets-eq more units place fits))

  sets_append : (units : List A) (at : ℕ) (first later : List A) → sets units at (first ++ later) ≡ sets (sets units at first) (at + length first) later
  sets_append units at [] later = rw add-zero
  sets_append units at (unit ∷ first) later = sets_append (set units at unit) (suc at) first later ∙ rw (suc-add, add-suc)

  front_more : (front more before : List A) {units : List A} → length front + length more ≤ length before → units ≡ front ++ drop (length front) before
      → sets units (length front) more ≡ (front ++ more) ++ drop (length (front ++ more)) before
  front_more front more before fits e =
      let long : length (front ++ drop (length front) before) ≡ length before = rw (length-append front (drop (length front) before)) (omega (arith, length-drop (length front) before)) in
      rw e
      (sets-eq more (front ++ drop (length front) before) (length front) (rw long fits)
      ∙ rw (
        take-append_seam front (drop (length front) before),
        drop-append-add front (drop (length front) before) (length more),
        drop-drop (length more) (length front) before,
        length-append front more,
      ))

module _ {A : Type 0} {size : ℕ} {packed : List ℕ → List A} (p : Packs size packed) where
  -- words behind words are the two as one
  pub puts_more : (units : List A) (place : ℕ) (first later : List ℕ) {next : ℕ} → next ≡ place + length first
      → sets (sets units (size * place) (packed first)) (size * next) (packed later) ≡ sets units (size * place) (packed (first ++ later))
  puts_more units place first later {next} e =
      let behind : size * next ≡ size * place + length (packed first) = ap (size *◌) e ∙ mul-add size place (length first) ∙ ap (size * place +◌) (sym (p.long first)) in
      ap (λ (n : ℕ). sets (sets units (size * place) (packed first)) n (packed later)) behind
      ∙ sym (sets_append units (size * place) (packed first) (packed later))
      ∙ ap (sets units (size * place)) (sym (p.joins first later))

  -- a slice with words in front
  abbrev pub laid : List ℕ → List A → List A
  laid words before = packed words ++ drop (length (packed words)) before

  pub laid_none : (before : List A) → before ≡ laid [] before
  laid_none before = ap (λ (l : List A). l ++ drop (length l) before) (sym p.none)

  pub laid_more : (words more : List ℕ) (before : List A) {units : List A} {place : ℕ} → place ≡ length words → length words + length more ≤ length before / size
      → units ≡ laid words before → sets units (size * place) (packed more) ≡ laid (words ++ more) before
  laid_more words more before {units} e fits laid_so_far =
      let room : length (packed words) + length (packed more) ≤ length before =
      omega (arith, p.long words, p.long more, mul-le-mul_left size fits, mul-add size (length words) (length more), mul-div-le (length before) size) in
      ap (λ (n : ℕ). sets units n (packed more)) (ap (size *◌) e ∙ sym (p.long words))
      ∙ front_more (packed words) (packed more) before room laid_so_far
      ∙ ap (λ (l : List A). l ++ drop (length l) before) (sym (p.joins words more))
