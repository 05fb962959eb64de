-- A reason is known by its number.
use mathlib.Core.Path.{◌≡◌, refl}
use Rattle.answers.specs.Numbers.{reason_number, reason_of}
use Rattle.answers.specs.declared.Reason.{Reason}
use Rattle.answers.specs.declared.Reason.TheVariants.{Unset, OtherKind, Differs, PartCount, NoCertificate, NotOpened, NotVerified}

pub reason_known : (reason : Reason) → reason_of (reason_number reason) ≡ reason
reason_known Unset = refl
reason_known OtherKind = refl
reason_known Differs = refl
reason_known PartCount = refl
reason_known NoCertificate = refl
reason_known NotOpened = refl
reason_known NotVerified = refl
