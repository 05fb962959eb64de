-- The number, the place and the reason of each answer of a round: the table of run's, and 12 to 14.
use Rattle.std.specs.Prelude.{ℕ}
use Rattle.answers.specs.Numbers.{ran_number, ran_place, ran_reason}
use Rattle.answers.specs.declared.rounds.Rounded.{Rounded}
use Rattle.answers.specs.declared.rounds.Rounded.TheVariants.{Ran, NoMessage, NotTaken, RoleEnded}

abbrev pub rounded_number : Rounded → ℕ
rounded_number (Ran ran) = ran_number ran
rounded_number NoMessage = 12
rounded_number NotTaken = 13
rounded_number RoleEnded = 14

abbrev pub rounded_place : Rounded → ℕ
rounded_place (Ran ran) = ran_place ran
rounded_place NoMessage = 0
rounded_place NotTaken = 0
rounded_place RoleEnded = 0

abbrev pub rounded_reason : Rounded → ℕ
rounded_reason (Ran ran) = ran_reason ran
rounded_reason NoMessage = 0
rounded_reason NotTaken = 0
rounded_reason RoleEnded = 0
