-- A refusal leaves what is lent; otherwise the steps say what is left.
use native.Mathlib.Omega.{arith}
use borrow.Author.Rules.{rules}
use Rattle.calls.specs.Run.{Lent}
use Rattle.running.proofs.EndLaws.{run_refused, start_small, start_ready, run_done, run_not_done}
use Rattle.running.proofs.run_cells.Goals as goal

pub returns-in-Err : goal.returns-in-Err
returns-in-Err c = run_refused _ _ c.requires c.look-found.ensures c.in-Err.is

pub overflow_cast-start : goal.overflow_cast-start
overflow_cast-start c =
    let x : Lent = record {
      kinds = c.args.kinds.now;
      objects = c.args.cells.objects;
      messages = c.args.cells.messages;
      certificates = c.args.certificates.now;
      accumulator = c.args.accumulator;
      terms = c.args.terms.now;
      counter = c.args.counter;
    } in
    omega (arith, start_small x c.args.code.now c.requires c.look-found.ensures c.in-Ok.is)

pub steps-answer-requires : goal.steps-answer-requires
steps-answer-requires c = start_ready _ _ c.requires c.look-found.ensures c.in-Ok.is

pub returns-in_default : goal.returns-in_default
returns-in_default c =
    let stopped = run_not_done _ _ c.requires c.look-found.ensures c.in-Ok.is _ _ c.steps-answer.ensures c.in_default.not-Done in search (rules, stopped)

pub returns : goal.returns
returns c = run_done _ _ c.requires c.look-found.ensures c.in-Ok.is _ _ c.steps-answer.ensures c.in-Done.is
