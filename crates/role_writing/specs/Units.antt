-- Words stand in a slice as so many elements each, one word behind another.
use Rattle.std.specs.Prelude.{◌≡◌, ℕ, ◌*◌, ◌<◌, List, [], ◌++◌, length, refl}
use Rattle.std.proofs.Common.{arith}
use Rattle.word.specs.Bytes.{spelled}
use Rattle.word.proofs.ByteLaws.{length_spelled, spelled_append}

pub record Packs {W A : Type 0} (size : ℕ) (packed : List W → List A) : Type 0 where
  pub some : 0 < size
  pub none : packed [] ≡ []
  pub long : (words : List W) → length (packed words) ≡ size * length words
  pub joins : (first later : List W) → packed (first ++ later) ≡ packed first ++ packed later

-- a word is an element of its own
pub itself_packs : {W : Type 0} → Packs 1 (λ (words : List W). words)
itself_packs = record { some = omega arith; none = refl; long = λ words. omega arith; joins = λ first later. refl }

-- a word is so many bytes
pub bytes_pack : (size : ℕ) → 0 < size → Packs size (spelled size)
unfolding spelled
bytes_pack size some = record { some = some; none = refl; long = length_spelled size; joins = spelled_append size }
