-- What the steps between INPUT and OUTPUT leave of a round.
use Rattle.std.specs.Prelude.{suc, ◌+◌}
use Rattle.answers.specs.declared.Ran.{Ran}
use Rattle.answers.specs.declared.Ran.TheVariants.{Done, Limit, BadTerm, BadStore, BadWord, Stuck, NoRoom}
use Rattle.answers.specs.declared.rounds.Session.{Session}
use Rattle.stores.specs.Cells.{unset}
use Rattle.machine.specs.declared.Registers.{Registers}

-- the steps' answer, with INPUT and OUTPUT counted
abbrev pub in_round : Ran → Ran
in_round (Done words) = Done (words + 2)
in_round Limit = Limit
in_round (BadTerm row) = BadTerm row
in_round BadStore = BadStore
in_round (BadWord word) = BadWord word
in_round (Stuck place reason) = Stuck (1 + place) reason
in_round (NoRoom place) = NoRoom (1 + place)

-- the session after a round that is done
abbrev pub session_after : Session → Registers → Session
session_after session g = record { used = g.used; counter = g.counter; round = suc session.round; message = unset; answer = g.accumulator.0 }
