-- What a bundle gives, as the code holds it: an answer, with code words, cells and rows in lent slices.
use Rattle.std.specs.Prelude.{ℕ, List, ◌++◌, length, drop, Result, Ok, Err}
use Rattle.terms.specs.Rules.{used_rows}
use Rattle.calls.specs.Run.{RunOutcome}
use Rattle.bundles.specs.Given.{Given, refused, ran}
use Rattle.running.specs.declared.Ended.{Ended}
use Rattle.outcomes.specs.declared.Refusal.{Refusal}

-- the answer, and the lent slices afterwards
pub record Held : Type 0 where
  pub gave : Result (ℕ × Ended) Refusal
  pub code : List ℕ
  pub objects : List ℕ
  pub messages : List ℕ
  pub rows : List ℕ

abbrev pub ended_by : RunOutcome → Ended
ended_by o = record { answer = o.answer; used = used_rows o.terms; accumulator = o.accumulator; counter = o.counter }

-- a refusal leaves what was lent; words of the code slice past the written ones stay
abbrev pub held_by : Given → List ℕ → List ℕ → List ℕ → List ℕ → Held
held_by (refused number place) code objects messages rows =
    record { gave = Err (record { number = number; place = place }); code = code; objects = objects; messages = messages; rows = rows }
held_by (ran words o) code objects messages rows = record {
  gave = Ok (length words, ended_by o);
  code = words ++ drop (length words) code;
  objects = o.objects;
  messages = o.messages;
  rows = o.terms;
}
