use Prim.Native.Nat.{◌+◌}
use mathlib.Core.Path.{◌≡◌}
use lib.ListN.{take}
use Rattle.text.specs.Written.{Wrote}
use Rattle.text.proofs.put_bytes.Given as goal

abbrev pub invariant-loop-byte : goal.invariant-loop-byte
invariant-loop-byte l = (l.next ≡ l.at + l.byte-index) × Wrote (take l.byte-index l.bytes) l.initial.out l.at l.out l.next
