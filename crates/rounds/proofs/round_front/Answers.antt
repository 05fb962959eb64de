-- A refusal leaves what is lent; otherwise the steps say what is left.
use Rattle.turns.proofs.FrontLaws.{front_goes_on, front_refused}
use Rattle.rounds.proofs.round_front.Goals as goal

pub play-requires : goal.play-requires
play-requires c = front_goes_on _ _ c.requires c.look-found.ensures c.in-Ok.is

pub returns-in-Err : goal.returns-in-Err
returns-in-Err c = front_refused _ _ c.requires c.look-found.ensures c.in-Err.is
