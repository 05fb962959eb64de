-- The functions themselves: each meets its contract, what its contract says is the definition that the promises speak of, and outcomes that it allows for one input coincide.
-- `lent` is what is passed, argument after argument, and `left` the same arguments at the return; `Learnt` is what a caller learns of the contract.
use Rattle.std.specs.Prelude.{ℕ, ◌≡◌, List}
use contract.Lifetimes.{Lfts}
use denote.Triple.Clauses.{AtExit}
use borrow.Fn.World.{ArgsD, ResD}
use Rattle.calls.specs.Compile.{CompileOutcome, used_part, compile}
use Rattle.calls.specs.Run.{RunOutcome, run}
use Rattle.bundles.specs.Opening.{opened}
use Rattle.looking.specs.Found.{used_with}
use Rattle.lending.specs.Entries.{CompileLeft, compile_entry, RunLeft, run_entry}
use Rattle.compiler.specs.contracts.compile as Compile
use Rattle.compiler.proofs.compile.Statement as CompileStatement
use Rattle.compiler.proofs.compile.Reads as CompileReads
use Rattle.delivery.specs.contracts.used as Used
use Rattle.delivery.proofs.used.Statement as UsedStatement
use Rattle.delivery.proofs.used.Reads as UsedReads
use Rattle.running.specs.contracts.run as Run
use Rattle.running.proofs.run.Statement as RunStatement
use Rattle.running.proofs.run.Reads as RunReads
use Rattle.bundles.specs.contracts.open as Open
use Rattle.bundles.proofs.open.Statement as OpenStatement
use Rattle.bundles.proofs.open.Reads as OpenReads
use Rattle.cram.specs.contracts.cram_compile as CramCompile
use Rattle.cram.proofs.cram_compile.Statement as CramCompileStatement
use Rattle.cram.proofs.cram_compile.Reads as CramCompileReads
use Rattle.cram.specs.contracts.cram_run as CramRun
use Rattle.cram.proofs.cram_run.Statement as CramRunStatement
use Rattle.cram.proofs.cram_run.Reads as CramRunReads

-- compile(create, pattern, kinds, objects, named, code)
module _ (κs : Lfts 5) (lent : ArgsD Compile.signature κs) where
  abbrev pub compiled_to : ResD Compile.signature κs → AtExit Compile.ended κs → CompileOutcome
  compiled_to answer left = record { answer = answer; code = left.1.1.1.1.1.0.now }

  abbrev pub compile_of : CompileOutcome
  compile_of = compile lent.0 lent.1.0.now lent.1.1.0.now lent.1.1.1.0.now lent.1.1.1.1.0.now lent.1.1.1.1.1.0.now

-- used(code, n)
module _ (κs : Lfts 1) (lent : ArgsD Used.signature κs) where
  abbrev pub used_of : List ℕ
  used_of = used_part lent.1.0 lent.0.now

-- run(kinds, objects, messages, certificates, accumulator, terms, counter, code)
module _ (κs : Lfts 6) (lent : ArgsD Run.signature κs) where
  abbrev pub ran_to : ResD Run.signature κs → AtExit Run.ended κs → RunOutcome
  ran_to ended left = record {
    answer = ended.answer;
    objects = left.1.0.now;
    messages = left.1.1.0.now;
    accumulator = ended.accumulator;
    terms = left.1.1.1.1.1.0.now;
    counter = ended.counter;
  }

  abbrev pub run_of : RunOutcome
  run_of =
      run (record {
        kinds = lent.0.now;
        objects = lent.1.0.now;
        messages = lent.1.1.0.now;
        certificates = lent.1.1.1.0.now;
        accumulator = lent.1.1.1.1.0;
        terms = lent.1.1.1.1.1.0.now;
        counter = lent.1.1.1.1.1.1.0;
      }) lent.1.1.1.1.1.1.1.0.now

-- cram_compile and cram_run: the same over bytes
module _ (κs : Lfts 5) (lent : ArgsD CramCompile.signature κs) where
  abbrev pub cram_compiled_to : ResD CramCompile.signature κs → AtExit CramCompile.ended κs → CompileLeft
  cram_compiled_to answer left = record { answer = answer; code = left.1.1.1.1.1.0.now }

  abbrev pub cram_compile_of : CompileLeft
  cram_compile_of = compile_entry lent.0 lent.1.0.now lent.1.1.0.now lent.1.1.1.0.now lent.1.1.1.1.0.now lent.1.1.1.1.1.0.now

module _ (κs : Lfts 6) (lent : ArgsD CramRun.signature κs) where
  abbrev pub cram_ran_to : ResD CramRun.signature κs → AtExit CramRun.ended κs → RunLeft
  cram_ran_to answer left = record { answer = answer; objects = left.1.0.now; messages = left.1.1.0.now; terms = left.1.1.1.1.1.0.now }

  abbrev pub cram_run_of : RunLeft
  cram_run_of =
      run_entry (record {
        kinds = lent.0.now;
        objects = lent.1.0.now;
        messages = lent.1.1.0.now;
        certificates = lent.1.1.1.0.now;
        accumulator = lent.1.1.1.1.0;
        terms = lent.1.1.1.1.1.0.now;
        counter = lent.1.1.1.1.1.1.0;
      }) lent.1.1.1.1.1.1.1.0.now

-- what a contract says of an outcome is an equation with the definition's
pub record Says : Type 0 where
  pub compiles : (κs : Lfts 5) (lent : ArgsD Compile.signature κs) (answer : ResD Compile.signature κs) (left : AtExit Compile.ended κs)
      → CompileReads.Learnt κs lent answer left → compiled_to κs lent answer left ≡ compile_of κs lent
  pub uses : (κs : Lfts 1) (lent : ArgsD Used.signature κs) (part : ResD Used.signature κs) (left : AtExit Used.ended κs)
      → UsedReads.Learnt κs lent part left → (part.now ≡ used_of κs lent) × (part.ref_ptr ≡ lent.0.ref_ptr)
  pub runs : (κs : Lfts 6) (lent : ArgsD Run.signature κs) (ended : ResD Run.signature κs) (left : AtExit Run.ended κs)
      → RunReads.Learnt κs lent ended left → (ran_to κs lent ended left ≡ run_of κs lent) × (ended.used ≡ used_with ended.answer (ran_to κs lent ended left).terms)
  pub opens : (κs : Lfts 1) (lent : ArgsD Open.signature κs) (found : ResD Open.signature κs) (left : AtExit Open.ended κs)
      → OpenReads.Learnt κs lent found left → found ≡ opened lent.0.now
  pub cram_compiles : (κs : Lfts 5) (lent : ArgsD CramCompile.signature κs) (answer : ResD CramCompile.signature κs) (left : AtExit CramCompile.ended κs)
      → CramCompileReads.Learnt κs lent answer left → cram_compiled_to κs lent answer left ≡ cram_compile_of κs lent
  pub cram_runs : (κs : Lfts 6) (lent : ArgsD CramRun.signature κs) (answer : ResD CramRun.signature κs) (left : AtExit CramRun.ended κs)
      → CramRunReads.Learnt κs lent answer left → cram_ran_to κs lent answer left ≡ cram_run_of κs lent

-- two outcomes that a contract allows for one input coincide
pub record Once : Type 0 where
  pub compiles : (κs : Lfts 5) (lent : ArgsD Compile.signature κs) (one other : ResD Compile.signature κs) (left also : AtExit Compile.ended κs)
      → CompileReads.Learnt κs lent one left → CompileReads.Learnt κs lent other also → compiled_to κs lent one left ≡ compiled_to κs lent other also
  pub uses : (κs : Lfts 1) (lent : ArgsD Used.signature κs) (one other : ResD Used.signature κs) (left also : AtExit Used.ended κs)
      → UsedReads.Learnt κs lent one left → UsedReads.Learnt κs lent other also → (one.now ≡ other.now) × (one.ref_ptr ≡ other.ref_ptr)
  pub runs : (κs : Lfts 6) (lent : ArgsD Run.signature κs) (one other : ResD Run.signature κs) (left also : AtExit Run.ended κs)
      → RunReads.Learnt κs lent one left → RunReads.Learnt κs lent other also
      → (ran_to κs lent one left ≡ ran_to κs lent other also) × (one.used ≡ other.used)
  pub opens : (κs : Lfts 1) (lent : ArgsD Open.signature κs) (one other : ResD Open.signature κs) (left also : AtExit Open.ended κs)
      → OpenReads.Learnt κs lent one left → OpenReads.Learnt κs lent other also → one ≡ other
  pub cram_compiles : (κs : Lfts 5) (lent : ArgsD CramCompile.signature κs) (one other : ResD CramCompile.signature κs) (left also : AtExit CramCompile.ended κs)
      → CramCompileReads.Learnt κs lent one left → CramCompileReads.Learnt κs lent other also → cram_compiled_to κs lent one left ≡ cram_compiled_to κs lent other also
  pub cram_runs : (κs : Lfts 6) (lent : ArgsD CramRun.signature κs) (one other : ResD CramRun.signature κs) (left also : AtExit CramRun.ended κs)
      → CramRunReads.Learnt κs lent one left → CramRunReads.Learnt κs lent other also → cram_ran_to κs lent one left ≡ cram_ran_to κs lent other also

-- each function meets its contract
pub record Functions (M : Type 1) : Type 2 where
  pub compile : CompileStatement.statement M
  pub used : UsedStatement.statement M
  pub run : RunStatement.statement M
  pub open_bundle : OpenStatement.statement M
  pub cram_compile : CramCompileStatement.statement M
  pub cram_run : CramRunStatement.statement M
  pub says : Says
  pub once : Once
