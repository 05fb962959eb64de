-- A finding as a refusal.
use mathlib.Core.Path.{◌≡◌, refl}
use Rattle.std.specs.Prelude.{Option, None, Some, Ok, Err}
use Rattle.answers.specs.declared.Compiled.{Compiled}
use Rattle.knowing.specs.Findings.{finding_of}

pub found_some : (o : Option Compiled) {answer : Compiled} → Err answer ≡ finding_of o → o ≡ Some answer
found_some (Some other) e = cc
found_some None e = absurd (cc)

pub found_none : (o : Option Compiled) → Ok tt ≡ finding_of o → o ≡ None
found_none None e = refl
found_none (Some other) e = absurd (cc)
