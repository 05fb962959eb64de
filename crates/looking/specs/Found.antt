-- What run finds before it steps: a refusal with the used rows that come back with it, or the number of used rows.
use Rattle.std.specs.Prelude.{ℕ, cond, List, eqb}
use Rattle.std.specs.Prelude.{Option, None, Some, Result, Ok, Err}
use Rattle.answers.specs.Numbers.{ran_number}
use Rattle.answers.specs.declared.Ran.{Ran}
use Rattle.terms.specs.Rules.{used_rows}
use Rattle.looking.specs.declared.Refused.{Refused}

-- the used rows that come back with an answer: 0 with 1, where the table is not looked at
abbrev pub used_with : Ran → List ℕ → ℕ
used_with answer rows = cond (eqb (ran_number answer) 1) 0 (used_rows rows)

abbrev pub found_by : Option Ran → List ℕ → Result ℕ Refused
found_by (Some answer) rows = Err (record { answer = answer; used = used_with answer rows })
found_by None rows = Ok (used_rows rows)
