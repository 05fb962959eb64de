-- Elements in the front of an array.
use Prim.Native.Nat.{ℕ, ◌/◌}
use mathlib.Core.Path.{◌≡◌}
use mathlib.Core.List.{List, ◌++◌}
use lib.ListN.{length, take}
use lib.Seq.{take_at}
use Rattle.word.specs.Bytes.{elements}
use Rattle.word.proofs.ByteLaws.{length_words}

pub front : (size : ℕ) (bytes rest : List ℕ) → take (length bytes / size) (elements size bytes ++ rest) ≡ elements size bytes
front size bytes rest = take_at (elements size bytes) rest (length bytes / size) (length_words size (length bytes / size) bytes)
