-- The functions that read a listing back: as on the page of functions, each meets its contract, says the definition that the promises speak of, and allows one outcome for one input.
use Rattle.std.specs.Prelude.{◌≡◌}
use contract.Lifetimes.{Lfts}
use denote.Triple.Clauses.{AtExit}
use borrow.Fn.World.{ArgsD, ResD}
use Rattle.code_reading.specs.Reading.{ReadOutcome, read_code}
use Rattle.read_lending.specs.ReadEntry.{ReadLeft, read_entry}
use Rattle.code_reading.specs.contracts.read_code as ReadCode
use Rattle.code_reading.proofs.read_code.Statement as ReadCodeStatement
use Rattle.code_reading.proofs.read_code.Reads as ReadCodeReads
use Rattle.cram.specs.contracts.reading.cram_read_listing as CramRead
use Rattle.cram.proofs.reading.cram_read_listing.Statement as CramReadStatement
use Rattle.cram.proofs.reading.cram_read_listing.Reads as CramReadReads

-- read_code(text, kinds, code)
module _ (κs : Lfts 3) (lent : ArgsD ReadCode.signature κs) where
  abbrev pub read_to : ResD ReadCode.signature κs → AtExit ReadCode.ended κs → ReadOutcome
  read_to answer left = record { answer = answer; code = left.1.1.0.now }

  abbrev pub reading_of : ReadOutcome
  reading_of = read_code lent.0.now lent.1.0.now lent.1.1.0.now

-- cram_read_listing: the same over bytes
module _ (κs : Lfts 3) (lent : ArgsD CramRead.signature κs) where
  abbrev pub cram_read_to : ResD CramRead.signature κs → AtExit CramRead.ended κs → ReadLeft
  cram_read_to answer left = record { answer = answer; code = left.1.1.0.now }

  abbrev pub cram_reading_of : ReadLeft
  cram_reading_of = read_entry lent.0.now lent.1.0.now lent.1.1.0.now

-- what a contract says of an outcome is an equation with the definition's
pub record ReadSays : Type 0 where
  pub reads : (κs : Lfts 3) (lent : ArgsD ReadCode.signature κs) (answer : ResD ReadCode.signature κs) (left : AtExit ReadCode.ended κs)
      → ReadCodeReads.Learnt κs lent answer left → read_to κs lent answer left ≡ reading_of κs lent
  pub cram_reads : (κs : Lfts 3) (lent : ArgsD CramRead.signature κs) (answer : ResD CramRead.signature κs) (left : AtExit CramRead.ended κs)
      → CramReadReads.Learnt κs lent answer left → cram_read_to κs lent answer left ≡ cram_reading_of κs lent

-- two outcomes that a contract allows for one input coincide
pub record ReadOnce : Type 0 where
  pub reads : (κs : Lfts 3) (lent : ArgsD ReadCode.signature κs) (one other : ResD ReadCode.signature κs) (left also : AtExit ReadCode.ended κs)
      → ReadCodeReads.Learnt κs lent one left → ReadCodeReads.Learnt κs lent other also → read_to κs lent one left ≡ read_to κs lent other also
  pub cram_reads : (κs : Lfts 3) (lent : ArgsD CramRead.signature κs) (one other : ResD CramRead.signature κs) (left also : AtExit CramRead.ended κs)
      → CramReadReads.Learnt κs lent one left → CramReadReads.Learnt κs lent other also → cram_read_to κs lent one left ≡ cram_read_to κs lent other also

-- each function meets its contract
pub record ReadFunctions (M : Type 1) : Type 2 where
  pub read_code_lem : ReadCodeStatement.statement M
  pub cram_read_listing : CramReadStatement.statement M
  pub says : ReadSays
  pub once : ReadOnce
