-- Numbers as bytes, high byte first.
use Rattle.std.specs.Prelude.{ℕ, zero, suc, ◌+◌, ◌*◌, ◌/◌, ◌%◌, ◌^◌, Bool, List, [], ◌∷◌, ◌++◌, length, take, drop, eqb}

-- the number that bytes write
unfoldable pub number : List ℕ → ℕ
number [] = 0
number (byte ∷ bytes) = byte * 256 ^ length bytes + number bytes

-- a number as so many bytes
unfoldable pub bytes_of : ℕ → ℕ → List ℕ
bytes_of zero number = []
bytes_of (suc size) number = number / 256 ^ size % 256 ∷ bytes_of size number

-- so many words of a size, from the front of some bytes
unfoldable pub words : ℕ → ℕ → List ℕ → List ℕ
words size zero bytes = []
words size (suc count) bytes = number (take size bytes) ∷ words size count (drop size bytes)

-- the bytes of words of a size
unfoldable pub spelled : ℕ → List ℕ → List ℕ
spelled size [] = []
spelled size (word ∷ words) = bytes_of size word ++ spelled size words

-- a slice is whole elements of a size
abbrev pub whole : ℕ → List ℕ → Bool
whole size bytes = eqb (length bytes % size) 0

-- the elements of a slice
abbrev pub elements : ℕ → List ℕ → List ℕ
elements size bytes = words size (length bytes / size) bytes
