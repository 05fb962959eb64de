-- Halves in turn, each claim by one citation.
use lib.ListN.{take}
use Rattle.numbers.specs.Limits.{named_cells}
use Rattle.calls.proofs.SetCells.{same_entry}
use Rattle.promises.specs.Halves.{HalvesInTurn}
use Rattle.promises.proofs.HalvesLaws.{one_after_the_other, half_prepared, half_carried}
use Rattle.promises.proofs.RoundDecisionLaws.{second_prepared, round_valid_again}
use Rattle.promises.proofs.RoleLaws.{round_plays, role_rounds}

pub halves_in_turn : HalvesInTurn
halves_in_turn = record {
  in_turn_lem = one_after_the_other;
  same_cells = λ x {objects} {named} o n. same_entry x.objects objects (take named_cells x.messages) named o n;
  prepared = λ x h. half_prepared x h;
  carried = λ x h. half_carried x h;
  prepared_second = λ x c ready. second_prepared x c ready;
  plays = round_plays;
  valid_again = round_valid_again;
  roles = role_rounds;
}
