-- Each answer by its variant.
use Rattle.engine.proofs.checks.refused_as.Goals as goal

pub returns-in-BadPattern : goal.returns-in-BadPattern
returns-in-BadPattern c = rw c.in-BadPattern.is

pub returns-in-WrongKind : goal.returns-in-WrongKind
returns-in-WrongKind c = rw c.in-WrongKind.is

pub returns-in-WrittenWhileSet : goal.returns-in-WrittenWhileSet
returns-in-WrittenWhileSet c = rw c.in-WrittenWhileSet.is

pub returns-in-ReadWhileUnset : goal.returns-in-ReadWhileUnset
returns-in-ReadWhileUnset c = rw c.in-ReadWhileUnset.is
