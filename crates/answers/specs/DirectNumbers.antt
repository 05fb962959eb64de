-- The number, the place and the reason of each answer of the engine: compile's table without 8 and run's without 9, with rows for places.
use Rattle.std.specs.Prelude.{ℕ}
use Rattle.answers.specs.Numbers.{reason_number}
use Rattle.answers.specs.declared.direct.Direct.{Direct}
use Rattle.answers.specs.declared.direct.Direct.TheVariants.{Done, Limit, BadTerm, BadStore, BadPattern, WrongKind, WrittenWhileSet, ReadWhileUnset, Stuck, NoRoom}

abbrev pub direct_number : Direct → ℕ
direct_number Done = 0
direct_number Limit = 1
direct_number (BadTerm row) = 2
direct_number BadStore = 3
direct_number (BadPattern row) = 4
direct_number (WrongKind row) = 5
direct_number (WrittenWhileSet row) = 6
direct_number (ReadWhileUnset row) = 7
direct_number (Stuck row reason) = 10
direct_number (NoRoom row) = 11

abbrev pub direct_place : Direct → ℕ
direct_place Done = 0
direct_place Limit = 0
direct_place (BadTerm row) = row
direct_place BadStore = 0
direct_place (BadPattern row) = row
direct_place (WrongKind row) = row
direct_place (WrittenWhileSet row) = row
direct_place (ReadWhileUnset row) = row
direct_place (Stuck row reason) = row
direct_place (NoRoom row) = row

-- the reason is 0 unless stuck
abbrev pub direct_reason : Direct → ℕ
direct_reason Done = 0
direct_reason Limit = 0
direct_reason (BadTerm row) = 0
direct_reason BadStore = 0
direct_reason (BadPattern row) = 0
direct_reason (WrongKind row) = 0
direct_reason (WrittenWhileSet row) = 0
direct_reason (ReadWhileUnset row) = 0
direct_reason (Stuck row reason) = reason_number reason
direct_reason (NoRoom row) = 0
