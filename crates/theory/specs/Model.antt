-- The vocabulary written once: over a way to look at a message and a way to make one.
use Rattle.std.specs.Prelude.{ℕ, Bool, ◌&&◌, ◌||◌, length, get_or, eqb}
use Rattle.std.specs.Prelude.{Option, None, Some}
use Rattle.answers.specs.Numbers.{reason_number}
use Rattle.answers.specs.declared.Reason.TheVariants.{OtherKind, Differs, PartCount, NoCertificate, NotOpened, NotVerified}
use Rattle.terms.specs.Shape.{Shape, atom, encrypted, signed, hashed, tupled, kind_of}
use Rattle.theory.specs.Outcome.{Answer, got, not, and_then, sure}
use Rattle.theory.specs.World.{World, Op, Test}
use Rattle.theory.specs.World as Voc

pub record Model : Type 1 where
  pub Msg : Type 0
  pub Mem : Type 0
  pub look : Msg → Mem → Shape Msg
  pub make : Shape Msg → Mem → Answer (Msg × Mem)
  pub fresh : Mem → Answer (ℕ × Mem)
  pub certificate : Msg → Mem → Option Msg
  pub equal : Msg → Msg → Mem → Bool

module _ {A : Type 0} where
  abbrev pub number_of : Shape A → ℕ
  number_of (atom tag number) = number
  number_of (encrypted key body) = 0
  number_of (signed key body) = 0
  number_of (hashed body) = 0
  number_of (tupled parts) = 0

-- private key i goes with public key i, shared key i with itself
abbrev pub pair : ℕ → ℕ → ℕ → ℕ → Bool
pair tag number tag' number' = eqb number number' && ((eqb tag 5 && eqb tag' 4) || (eqb tag 6 && eqb tag' 6))

module _ (S : Model) where
  -- key k opens what key l sealed; what k signed l verifies
  abbrev pub goes_with : S.Msg → S.Msg → S.Mem → Bool
  goes_with k l x = pair (kind_of (S.look k x)) (number_of (S.look k x)) (kind_of (S.look l x)) (number_of (S.look l x))

  -- the opposite of private key i is public key i
  abbrev pub opposite : Shape S.Msg → S.Mem → Answer (S.Msg × S.Mem)
  opposite s x = and_then (sure (reason_number OtherKind) (eqb (kind_of s) 5)) λ _. S.make (atom 4 (number_of s)) x

  abbrev pub opened : S.Msg → Shape S.Msg → S.Mem → Answer (S.Msg × S.Mem)
  opened k (encrypted l b) x = and_then (sure (reason_number NotOpened) (goes_with k l x)) λ _. got (b, x)
  opened k (atom tag number) x = not (reason_number NotOpened)
  opened k (signed l b) x = not (reason_number NotOpened)
  opened k (hashed b) x = not (reason_number NotOpened)
  opened k (tupled ms) x = not (reason_number NotOpened)

  abbrev pub certified : Option S.Msg → S.Mem → Answer (S.Msg × S.Mem)
  certified (Some k) x = got (k, x)
  certified None x = not (reason_number NoCertificate)

  -- a signature is verified only for its own body
  abbrev pub verified : S.Msg → S.Msg → Shape S.Msg → S.Mem → Answer (Unit {0})
  verified k b (signed l c) x = sure (reason_number NotVerified) (goes_with l k x && S.equal b c x)
  verified k b (atom tag number) x = not (reason_number NotVerified)
  verified k b (encrypted l c) x = not (reason_number NotVerified)
  verified k b (hashed c) x = not (reason_number NotVerified)
  verified k b (tupled ms) x = not (reason_number NotVerified)

  -- exactly n parts
  abbrev pub taken : S.Msg → ℕ → Shape S.Msg → Answer (ℕ → S.Msg)
  taken m n (tupled ms) = and_then (sure (reason_number PartCount) (eqb (length ms) n)) λ _. got (λ i. get_or ms i m)
  taken m n (atom tag number) = not (reason_number PartCount)
  taken m n (encrypted l c) = not (reason_number PartCount)
  taken m n (signed l c) = not (reason_number PartCount)
  taken m n (hashed c) = not (reason_number PartCount)

  -- a created name takes the counter's number; the counter is looked at before the row
  abbrev pub apply_in : Op S.Msg → S.Mem → Answer (S.Msg × S.Mem)
  apply_in (Voc.byte n) x = S.make (atom 1 n) x
  apply_in (Voc.create kind) x = and_then (S.fresh x) λ r. S.make (atom kind r.0) r.1
  apply_in (Voc.op a) x = opposite (S.look a x) x
  apply_in (Voc.key_of a) x = certified (S.certificate a x) x
  apply_in (Voc.encrypt k m) x = S.make (encrypted k m) x
  apply_in (Voc.decrypt k m) x = opened k (S.look m x) x
  apply_in (Voc.sign k m) x = S.make (signed k m) x
  apply_in (Voc.hash m) x = S.make (hashed m) x
  apply_in (Voc.tuple ms) x = S.make (tupled ms) x

  abbrev pub test_in : Test S.Msg → S.Mem → Answer (Unit {0})
  test_in (Voc.is kind m) x = sure (reason_number OtherKind) (eqb kind (kind_of (S.look m x)))
  test_in (Voc.same a b) x = sure (reason_number Differs) (S.equal a b x)
  test_in (Voc.verify k b m) x = verified k b (S.look m x) x

  abbrev pub world : World
  world = record { Msg = S.Msg; Mem = S.Mem; apply = apply_in; test = test_in; parts = λ m n x. taken m n (S.look m x) }
