-- The number, the place and the reason of each answer.
use Rattle.std.specs.Prelude.{ℕ, ◌-◌, List, [], ◌∷◌, get_or}
use Rattle.answers.specs.declared.Reason.{Reason}
use Rattle.answers.specs.declared.Reason.TheVariants.{Unset, OtherKind, Differs, PartCount, NoCertificate, NotOpened, NotVerified}
use Rattle.answers.specs.declared.Compiled.{Compiled}
use Rattle.answers.specs.declared.Ran.{Ran}

-- the reasons in the order of their numbers, from 1 on
abbrev pub reasons : List Reason
reasons = Unset ∷ OtherKind ∷ Differs ∷ PartCount ∷ NoCertificate ∷ NotOpened ∷ NotVerified ∷ []

abbrev pub reason_number : Reason → ℕ
reason_number Unset = 1
reason_number OtherKind = 2
reason_number Differs = 3
reason_number PartCount = 4
reason_number NoCertificate = 5
reason_number NotOpened = 6
reason_number NotVerified = 7

abbrev pub reason_of : ℕ → Reason
reason_of n = get_or reasons (n - 1) Unset

-- what compile answers
abbrev pub compiled_number : Compiled → ℕ
compiled_number (Compiled.Done words) = 0
compiled_number Compiled.Limit = 1
compiled_number Compiled.BadStore = 3
compiled_number (Compiled.BadPattern row) = 4
compiled_number (Compiled.WrongKind row) = 5
compiled_number (Compiled.WrittenWhileSet row) = 6
compiled_number (Compiled.ReadWhileUnset row) = 7
compiled_number (Compiled.CodeTooShort words) = 8

abbrev pub compiled_place : Compiled → ℕ
compiled_place (Compiled.Done words) = words
compiled_place Compiled.Limit = 0
compiled_place Compiled.BadStore = 0
compiled_place (Compiled.BadPattern row) = row
compiled_place (Compiled.WrongKind row) = row
compiled_place (Compiled.WrittenWhileSet row) = row
compiled_place (Compiled.ReadWhileUnset row) = row
compiled_place (Compiled.CodeTooShort words) = words

-- what run answers
abbrev pub ran_number : Ran → ℕ
ran_number (Ran.Done words) = 0
ran_number Ran.Limit = 1
ran_number (Ran.BadTerm row) = 2
ran_number Ran.BadStore = 3
ran_number (Ran.BadWord word) = 9
ran_number (Ran.Stuck word reason) = 10
ran_number (Ran.NoRoom word) = 11

abbrev pub ran_place : Ran → ℕ
ran_place (Ran.Done words) = words
ran_place Ran.Limit = 0
ran_place (Ran.BadTerm row) = row
ran_place Ran.BadStore = 0
ran_place (Ran.BadWord word) = word
ran_place (Ran.Stuck word reason) = word
ran_place (Ran.NoRoom word) = word

-- the reason is 0 unless stuck
abbrev pub ran_reason : Ran → ℕ
ran_reason (Ran.Done words) = 0
ran_reason Ran.Limit = 0
ran_reason (Ran.BadTerm row) = 0
ran_reason Ran.BadStore = 0
ran_reason (Ran.BadWord word) = 0
ran_reason (Ran.Stuck word reason) = reason_number reason
ran_reason (Ran.NoRoom word) = 0
