-- Bytes of whole elements, parted at an element.
use Prim.Native.Nat.{ℕ, ◌*◌, ◌≤◌}
use mathlib.Core.Path.{◌≡◌, sym, ◌∙◌, ap}
use mathlib.Core.List.{List, ◌++◌}
use lib.Dec.{T}
use lib.ListN.{length, take, drop, take-append-drop}
use lib.Seq.{drop_at, length-take-le}
use Rattle.word.specs.Bytes.{whole, elements, spelled}
use Rattle.word.proofs.ByteLaws.{Below, length_spelled, spelled_append, spelled_elements}

module _ (size : ℕ) (bytes : List ℕ) (exact : T (whole size bytes)) (below : Below 256 bytes) (place : ℕ) (most : place ≤ length (elements size bytes)) where
  abbrev all : List ℕ
  all = elements size bytes

  parted : spelled size (take place all) ++ spelled size (drop place all) ≡ bytes
  parted = sym (spelled_append size (take place all) (drop place all)) ∙ ap (spelled size) (take-append-drop place all) ∙ spelled_elements size bytes exact below

  pub spelled_rest : spelled size (drop place all) ≡ drop (size * place) bytes
  spelled_rest =
      sym (drop_at (spelled size (take place all)) (spelled size (drop place all)) (size * place)
      (length_spelled size _ ∙ ap (λ (n : ℕ). size * n) (length-take-le place all most)))
      ∙ ap (drop (size * place)) parted

  pub spelled_front : bytes ≡ spelled size (take place all) ++ drop (size * place) bytes
  spelled_front = sym parted ∙ ap (λ (rest : List ℕ). spelled size (take place all) ++ rest) spelled_rest
