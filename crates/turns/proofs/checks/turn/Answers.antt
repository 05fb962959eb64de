-- Each way out is the first of the three that holds.
use Rattle.turns.proofs.CheckLaws.{turn-ways}
use Rattle.turns.proofs.checks.turn.Goals as goal

pub returns-then-rounds-session : goal.returns-then-rounds-session
returns-then-rounds-session c = search turn-ways

pub returns-then-is_set : goal.returns-then-is_set
returns-then-is_set c = search turn-ways

pub returns-then-not-is_set : goal.returns-then-not-is_set
returns-then-not-is_set c = search turn-ways

pub returns : goal.returns
returns c = search turn-ways
