-- What the entries for C leave: plain numbers, and every lent byte afterwards. Fields stand high byte first.
use Rattle.std.specs.Prelude.{ℕ, Bool, cond, ◌&&◌, List, eqb, leb}
use Rattle.word.specs.Bytes.{whole, elements, spelled}
use Rattle.answers.specs.Numbers.{compiled_number, compiled_place, ran_number, ran_place, ran_reason}
use Rattle.answers.specs.declared.Compiled.{Compiled}
use Rattle.answers.specs.declared.Ran.{Ran}
use Rattle.calls.specs.Compile.{CompileOutcome, compile}
use Rattle.calls.specs.Run.{Lent, RunOutcome, run}
use Rattle.looking.specs.Found.{used_with}
use Rattle.lending.specs.declared.CompileAnswer.{CompileAnswer}
use Rattle.lending.specs.declared.RunAnswer.{RunAnswer}

-- a table of so many rows is small
abbrev pub few_rows : ℕ
few_rows = 256

-- a call of compile: what comes back, and the lent bytes that it may write
pub record CompileLeft : Type 0 where
  pub answer : CompileAnswer
  pub code : List ℕ

abbrev pub compiled_numbers : Compiled → CompileAnswer
compiled_numbers answer = record { number = compiled_number answer; place = compiled_place answer }

-- an outcome in numbers and bytes
abbrev pub compile_spelled : CompileOutcome → CompileLeft
compile_spelled o = record { answer = compiled_numbers o.answer; code = spelled 4 o.code }

-- 1, with every byte as it was
abbrev pub compile_refused : List ℕ → CompileLeft
compile_refused code = record { answer = compiled_numbers Compiled.Limit; code = code }

module _ (create : ℕ) (pattern kinds objects named code : List ℕ) where
  -- the direction is 0 for matching or 1 for creating; pattern rows are eight bytes, cells two, code words four
  abbrev pub compile_whole : Bool
  compile_whole = leb create 1 && whole 8 pattern && whole 2 objects && whole 2 named && whole 4 code

  -- compile, lent bytes: another direction, or a slice that is not whole elements, is 1
  unfoldable pub compile_entry : CompileLeft
  compile_entry =
      cond compile_whole (compile_spelled (compile (eqb create 1) (elements 8 pattern) kinds (elements 2 objects) (elements 2 named) (elements 4 code)))
      (compile_refused code)

-- a call of run: what comes back, and the lent bytes that it may write
pub record RunLeft : Type 0 where
  pub answer : RunAnswer
  pub objects : List ℕ
  pub messages : List ℕ
  pub terms : List ℕ

abbrev pub ran_numbers : Ran → ℕ → ℕ → ℕ → RunAnswer
ran_numbers answer used counter accumulator = record {
  number = ran_number answer;
  place = ran_place answer;
  reason = ran_reason answer;
  used = used;
  counter = counter;
  accumulator = accumulator;
}

-- cells are two bytes, code words four, certificates and term rows eight
abbrev pub slices_whole : List ℕ → List ℕ → List ℕ → List ℕ → List ℕ → Bool
slices_whole objects messages certificates terms code = whole 2 objects && whole 2 messages && whole 8 certificates && whole 8 terms && whole 4 code

abbrev pub run_whole : Lent → List ℕ → Bool
run_whole x code = slices_whole x.objects x.messages x.certificates x.terms code

-- the elements of what is lent as bytes
abbrev pub lent_elements : Lent → Lent
lent_elements x = record {
  kinds = x.kinds;
  objects = elements 2 x.objects;
  messages = elements 2 x.messages;
  certificates = elements 8 x.certificates;
  accumulator = x.accumulator;
  terms = elements 8 x.terms;
  counter = x.counter;
}

-- an outcome with its rows as bytes
abbrev pub rows_spelled : RunOutcome → RunOutcome
rows_spelled o = record {
  answer = o.answer;
  objects = o.objects;
  messages = o.messages;
  accumulator = o.accumulator;
  terms = spelled 8 o.terms;
  counter = o.counter;
}

-- an outcome in numbers and bytes
abbrev pub run_spelled : RunOutcome → RunLeft
run_spelled o = record {
  answer = ran_numbers o.answer (used_with o.answer o.terms) o.counter o.accumulator;
  objects = spelled 2 o.objects;
  messages = spelled 2 o.messages;
  terms = spelled 8 o.terms;
}

-- 1, with every byte as it was
abbrev pub run_refused : Lent → RunLeft
run_refused x = record {
  answer = ran_numbers Ran.Limit 0 x.counter x.accumulator;
  objects = x.objects;
  messages = x.messages;
  terms = x.terms;
}

-- run, lent bytes: a slice that is not whole elements is 1
unfoldable pub run_entry : Lent → List ℕ → RunLeft
run_entry x code = cond (run_whole x code) (run_spelled (run (lent_elements x) (elements 4 code))) (run_refused x)
