-- What is found of a pattern: a refusal, or nothing.
use Rattle.std.specs.Prelude.{Option, None, Some, Result, Ok, Err}
use Rattle.answers.specs.declared.Compiled.{Compiled}

abbrev pub finding_of : Option Compiled → Result Unit Compiled
finding_of (Some answer) = Err answer
finding_of None = Ok tt
