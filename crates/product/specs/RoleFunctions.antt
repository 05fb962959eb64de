-- The functions of roles and rounds: as on the page of functions, each meets its contract, says the definition that the promises speak of, and allows one outcome for one input.
use Rattle.std.specs.Prelude.{ℕ, ◌+◌, ◌*◌, ◌≡◌, List}
use seplogic.Ra.Ura.{Ura}
use contract.Lifetimes.{Lfts}
use contract.Monad.{Fun, fact}
use base.Logic.{SProp}
use prog.Memory.{Memory}
use prog.Routine.{Routine}
use types.Logic.{Logic}
use denote.Triple.Clauses.{AtExit}
use borrow.Fn.World.{ArgsD, ResD}
use Rattle.calls.specs.Role.{RoleOutcome, role, round_part, round_place}
use Rattle.calls.specs.Round.{RoundOutcome, round, TakenOutcome, taken_of}
use Rattle.lending.specs.RoundEntry.{RoundLeft, round_entry, TakeLeft, take_entry}
use Rattle.role_lending.specs.RoleEntry.{RoleLeft, role_entry}
use Rattle.roles.specs.contracts.compile_role as CompileRole
use Rattle.roles.proofs.compile_role.Statement as CompileRoleStatement
use Rattle.roles.proofs.compile_role.Reads as CompileRoleReads
use Rattle.round_parts.specs.contracts.round_part as RoundPart
use Rattle.round_parts.proofs.round_part.Statement as RoundPartStatement
use Rattle.round_parts.proofs.round_part.Reads as RoundPartReads
use Rattle.rounds.specs.contracts.round_of as RoundOf
use Rattle.rounds.proofs.round_of.Statement as RoundOfStatement
use Rattle.rounds.proofs.round_of.Reads as RoundOfReads
use Rattle.rounds.specs.contracts.round as Round
use Rattle.rounds.proofs.round.Statement as RoundStatement
use Rattle.rounds.specs.contracts.take_of as TakeOf
use Rattle.rounds.proofs.take_of.Statement as TakeOfStatement
use Rattle.rounds.proofs.take_of.Reads as TakeOfReads
use Rattle.rounds.specs.contracts.take as Take
use Rattle.rounds.proofs.take.Statement as TakeStatement
use Rattle.cram.specs.contracts.role_entry.cram_compile_role as CramRole
use Rattle.cram.proofs.role_entry.cram_compile_role.Statement as CramRoleStatement
use Rattle.cram.proofs.role_entry.cram_compile_role.Reads as CramRoleReads
use Rattle.cram.specs.contracts.session.cram_round as CramRound
use Rattle.cram.proofs.session.cram_round.Statement as CramRoundStatement
use Rattle.cram.proofs.session.cram_round.Reads as CramRoundReads
use Rattle.cram.specs.contracts.session.cram_take as CramTake
use Rattle.cram.proofs.session.cram_take.Statement as CramTakeStatement
use Rattle.cram.proofs.session.cram_take.Reads as CramTakeReads

-- compile_role(rows, counts, kinds, objects, named, ends, code)
module _ (κs : Lfts 7) (lent : ArgsD CompileRole.signature κs) where
  abbrev pub role_to : ResD CompileRole.signature κs → AtExit CompileRole.ended κs → RoleOutcome
  role_to compiled left = record {
    answer = compiled.answer;
    half = compiled.half;
    ends = left.1.1.1.1.1.0.now;
    code = left.1.1.1.1.1.1.0.now;
  }

  abbrev pub role_of : RoleOutcome
  role_of =
      role lent.1.1.1.1.1.0.now lent.1.1.1.1.1.1.0.now (record {
        rows = lent.0.now;
        counts = lent.1.0.now;
        kinds = lent.1.1.0.now;
        objects = lent.1.1.1.0.now;
        named = lent.1.1.1.1.0.now;
      })

-- cram_compile_role: the same over bytes
module _ (κs : Lfts 7) (lent : ArgsD CramRole.signature κs) where
  abbrev pub cram_role_to : ResD CramRole.signature κs → AtExit CramRole.ended κs → RoleLeft
  cram_role_to answer left = record { answer = answer; ends = left.1.1.1.1.1.0.now; code = left.1.1.1.1.1.1.0.now }

  abbrev pub cram_role_of : RoleLeft
  cram_role_of =
      role_entry lent.1.1.1.1.1.0.now lent.1.1.1.1.1.1.0.now (record {
        rows = lent.0.now;
        counts = lent.1.0.now;
        kinds = lent.1.1.0.now;
        objects = lent.1.1.1.0.now;
        named = lent.1.1.1.1.0.now;
      })

-- round_part(code, ends, round): the words, and their address, four bytes a word
module _ (κs : Lfts 2) (lent : ArgsD RoundPart.signature κs) where
  abbrev pub part_of : List ℕ
  part_of = round_part lent.0.now lent.1.0.now lent.1.1.0

  abbrev pub address_of : ℕ × ℕ
  address_of = (lent.0.ref_ptr.0, round_place lent.0.now lent.1.0.now lent.1.1.0 * 4 + lent.0.ref_ptr.1)

-- round_of(session, rounds, kinds, objects, messages, certificates, terms, code), the session by value
module _ (κs : Lfts 6) (lent : ArgsD RoundOf.signature κs) where
  abbrev pub played_to : ResD RoundOf.signature κs → AtExit RoundOf.ended κs → RoundOutcome
  played_to ended left = record {
    answer = ended.answer;
    session = ended.session;
    objects = left.1.1.1.0.now;
    messages = left.1.1.1.1.0.now;
    terms = left.1.1.1.1.1.1.0.now;
  }

  abbrev pub play_of : RoundOutcome
  play_of =
      round (record {
        session = lent.0;
        rounds = lent.1.0;
        kinds = lent.1.1.0.now;
        objects = lent.1.1.1.0.now;
        messages = lent.1.1.1.1.0.now;
        certificates = lent.1.1.1.1.1.0.now;
        terms = lent.1.1.1.1.1.1.0.now;
      }) lent.1.1.1.1.1.1.1.0.now

-- round: the same, the session in place
module _ (κs : Lfts 7) (lent : ArgsD Round.signature κs) where
  abbrev pub round_to : ResD Round.signature κs → AtExit Round.ended κs → RoundOutcome
  round_to answer left = record {
    answer = answer;
    session = left.0.now;
    objects = left.1.1.1.0.now;
    messages = left.1.1.1.1.0.now;
    terms = left.1.1.1.1.1.1.0.now;
  }

  abbrev pub round_in : RoundOutcome
  round_in =
      round (record {
        session = lent.0.now;
        rounds = lent.1.0;
        kinds = lent.1.1.0.now;
        objects = lent.1.1.1.0.now;
        messages = lent.1.1.1.1.0.now;
        certificates = lent.1.1.1.1.1.0.now;
        terms = lent.1.1.1.1.1.1.0.now;
      }) lent.1.1.1.1.1.1.1.0.now

-- cram_round: the same over bytes
module _ (κs : Lfts 7) (lent : ArgsD CramRound.signature κs) where
  abbrev pub cram_round_to : ResD CramRound.signature κs → AtExit CramRound.ended κs → RoundLeft
  cram_round_to answer left = record {
    answer = answer;
    session = left.0.now;
    objects = left.1.1.1.0.now;
    messages = left.1.1.1.1.0.now;
    terms = left.1.1.1.1.1.1.0.now;
  }

  abbrev pub cram_round_of : RoundLeft
  cram_round_of =
      round_entry (record {
        session = lent.0.now;
        rounds = lent.1.0;
        kinds = lent.1.1.0.now;
        objects = lent.1.1.1.0.now;
        messages = lent.1.1.1.1.0.now;
        certificates = lent.1.1.1.1.1.0.now;
        terms = lent.1.1.1.1.1.1.0.now;
      }) lent.1.1.1.1.1.1.1.0.now

-- take_of(session) by value, take in place, cram_take over bytes
module _ (κs : Lfts 0) (lent : ArgsD TakeOf.signature κs) where
  abbrev pub taken_to : ResD TakeOf.signature κs → TakenOutcome
  taken_to taken = record { session = taken.session; answer = taken.answer }

module _ (κs : Lfts 1) (lent : ArgsD Take.signature κs) where
  abbrev pub take_to : ResD Take.signature κs → AtExit Take.ended κs → TakenOutcome
  take_to answer left = record { session = left.0.now; answer = answer }

module _ (κs : Lfts 1) (lent : ArgsD CramTake.signature κs) where
  abbrev pub cram_take_to : ResD CramTake.signature κs → AtExit CramTake.ended κs → TakeLeft
  cram_take_to answer left = record { answer = answer; session = left.0.now }

-- what a contract says of an outcome is an equation with the definition's
pub record RoleSays : Type 0 where
  pub compiles : (κs : Lfts 7) (lent : ArgsD CompileRole.signature κs) (compiled : ResD CompileRole.signature κs) (left : AtExit CompileRole.ended κs)
      → CompileRoleReads.Learnt κs lent compiled left → role_to κs lent compiled left ≡ role_of κs lent
  pub cram_compiles : (κs : Lfts 7) (lent : ArgsD CramRole.signature κs) (answer : ResD CramRole.signature κs) (left : AtExit CramRole.ended κs)
      → CramRoleReads.Learnt κs lent answer left → cram_role_to κs lent answer left ≡ cram_role_of κs lent
  pub parts : (κs : Lfts 2) (lent : ArgsD RoundPart.signature κs) (part : ResD RoundPart.signature κs) (left : AtExit RoundPart.ended κs)
      → RoundPartReads.Learnt κs lent part left → (part.now ≡ part_of κs lent) × (part.ref_ptr ≡ address_of κs lent)
  pub plays : (κs : Lfts 6) (lent : ArgsD RoundOf.signature κs) (ended : ResD RoundOf.signature κs) (left : AtExit RoundOf.ended κs)
      → RoundOfReads.Learnt κs lent ended left → played_to κs lent ended left ≡ play_of κs lent
  pub cram_rounds : (κs : Lfts 7) (lent : ArgsD CramRound.signature κs) (answer : ResD CramRound.signature κs) (left : AtExit CramRound.ended κs)
      → CramRoundReads.Learnt κs lent answer left → cram_round_to κs lent answer left ≡ cram_round_of κs lent
  pub hands_over : (κs : Lfts 0) (lent : ArgsD TakeOf.signature κs) (taken : ResD TakeOf.signature κs) (left : AtExit TakeOf.ended κs)
      → TakeOfReads.Learnt κs lent taken left → taken_to κs lent taken ≡ taken_of lent.0
  pub cram_takes : (κs : Lfts 1) (lent : ArgsD CramTake.signature κs) (answer : ResD CramTake.signature κs) (left : AtExit CramTake.ended κs)
      → CramTakeReads.Learnt κs lent answer left → cram_take_to κs lent answer left ≡ take_entry lent.0.now

-- of round and take, which write the record in place, the contract's claim at the return is exactly the fact of such an equation
module _ {M : Type 1} {𝓤 : Ura M} (𝓛 : Logic 𝓤) (memory : Memory → SProp 𝓤) (routines : Routine → Fun 𝓤) where
  pub record InPlaceSays : Type 2 where
    pub rounds : (κs : Lfts 7) (lent : ArgsD Round.signature κs) (answer : ResD Round.signature κs) (left : AtExit Round.ended κs)
        → (Round.clauses 𝓛 memory routines κs lent).ensures tt answer left ≡ fact 𝓤 (round_to κs lent answer left ≡ round_in κs lent)
    pub takes : (κs : Lfts 1) (lent : ArgsD Take.signature κs) (answer : ResD Take.signature κs) (left : AtExit Take.ended κs)
        → (Take.clauses 𝓛 memory routines κs lent).ensures tt answer left ≡ fact 𝓤 (take_to κs lent answer left ≡ taken_of lent.0.now)

-- two outcomes that a contract allows for one input coincide
pub record RoleOnce : Type 0 where
  pub compiles : (κs : Lfts 7) (lent : ArgsD CompileRole.signature κs) (one other : ResD CompileRole.signature κs) (left also : AtExit CompileRole.ended κs)
      → CompileRoleReads.Learnt κs lent one left → CompileRoleReads.Learnt κs lent other also → role_to κs lent one left ≡ role_to κs lent other also
  pub cram_compiles : (κs : Lfts 7) (lent : ArgsD CramRole.signature κs) (one other : ResD CramRole.signature κs) (left also : AtExit CramRole.ended κs)
      → CramRoleReads.Learnt κs lent one left → CramRoleReads.Learnt κs lent other also → cram_role_to κs lent one left ≡ cram_role_to κs lent other also
  pub parts : (κs : Lfts 2) (lent : ArgsD RoundPart.signature κs) (one other : ResD RoundPart.signature κs) (left also : AtExit RoundPart.ended κs)
      → RoundPartReads.Learnt κs lent one left → RoundPartReads.Learnt κs lent other also → (one.now ≡ other.now) × (one.ref_ptr ≡ other.ref_ptr)
  pub plays : (κs : Lfts 6) (lent : ArgsD RoundOf.signature κs) (one other : ResD RoundOf.signature κs) (left also : AtExit RoundOf.ended κs)
      → RoundOfReads.Learnt κs lent one left → RoundOfReads.Learnt κs lent other also → played_to κs lent one left ≡ played_to κs lent other also
  pub cram_rounds : (κs : Lfts 7) (lent : ArgsD CramRound.signature κs) (one other : ResD CramRound.signature κs) (left also : AtExit CramRound.ended κs)
      → CramRoundReads.Learnt κs lent one left → CramRoundReads.Learnt κs lent other also → cram_round_to κs lent one left ≡ cram_round_to κs lent other also
  pub hands_over : (κs : Lfts 0) (lent : ArgsD TakeOf.signature κs) (one other : ResD TakeOf.signature κs) (left also : AtExit TakeOf.ended κs)
      → TakeOfReads.Learnt κs lent one left → TakeOfReads.Learnt κs lent other also → taken_to κs lent one ≡ taken_to κs lent other
  pub cram_takes : (κs : Lfts 1) (lent : ArgsD CramTake.signature κs) (one other : ResD CramTake.signature κs) (left also : AtExit CramTake.ended κs)
      → CramTakeReads.Learnt κs lent one left → CramTakeReads.Learnt κs lent other also → cram_take_to κs lent one left ≡ cram_take_to κs lent other also

-- each function meets its contract
pub record RoleFunctions (M : Type 1) : Type 2 where
  pub compile_role : CompileRoleStatement.statement M
  pub cram_compile_role : CramRoleStatement.statement M
  pub round_part_lem : RoundPartStatement.statement M
  pub round_of_lem : RoundOfStatement.statement M
  pub round : RoundStatement.statement M
  pub cram_round : CramRoundStatement.statement M
  pub take_of : TakeOfStatement.statement M
  pub take : TakeStatement.statement M
  pub cram_take : CramTakeStatement.statement M
  pub says : RoleSays
  pub in_place : (𝓤 : Ura M) (𝓛 : Logic 𝓤) (memory : Memory → SProp 𝓤) (routines : Routine → Fun 𝓤) → InPlaceSays 𝓛 memory routines
  pub once : RoleOnce
