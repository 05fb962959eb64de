-- A row of lent bytes takes eight of them.
use Rattle.std.specs.Prelude.{ℕ, ◌/◌, ◌≤◌, List, length}
use Rattle.std.proofs.Common.{arith}
use Rattle.word.specs.Bytes.{elements}
use Rattle.word.proofs.ByteLaws.{length_words}

pub fewer_rows : (bytes : List ℕ) → length (elements 8 bytes) ≤ length bytes
fewer_rows bytes = omega (arith, length_words 8 (length bytes / 8) bytes)
