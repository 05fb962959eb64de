-- All promises, each by the page that proves it.
use Rattle.calls.proofs.Cases.{worked}
use Rattle.promises.specs.Promises.{Promises}
use Rattle.promises.proofs.WordLaws.{words}
use Rattle.promises.proofs.RowLaws.{rows}
use Rattle.promises.proofs.ReasonTable.{reason_table}
use Rattle.promises.proofs.VocabularyLaws.{vocabulary}
use Rattle.calls.proofs.LookLaws.{looks_emitted}
use Rattle.promises.proofs.MeaningLaws.{meanings}
use Rattle.promises.proofs.Demand1.{demand_1}
use Rattle.promises.proofs.Demand2.{demand_2}
use Rattle.promises.proofs.Demand3.{demand_3}
use Rattle.promises.proofs.StraightTable.{straight_page}
use Rattle.promises.proofs.Example.{example}
use Rattle.promises.proofs.StraightCases.{straight_cases}
use Rattle.promises.proofs.ForC.{for_c}
use Rattle.promises.proofs.RoundLaws.{round_table}
use Rattle.promises.proofs.RoleTable.{role_table}
use Rattle.promises.proofs.Halves.{halves_in_turn}
use Rattle.promises.proofs.Echo.{worked_echo}
use Rattle.promises.proofs.RoundsForC.{rounds_for_c}
use Rattle.promises.proofs.RolesForC.{roles_for_c}
use Rattle.promises.proofs.ListingLaws.{listing_table}
use Rattle.promises.proofs.Printed.{printed}
use Rattle.promises.proofs.Readings.{reading_table, round_trips}
use Rattle.promises.proofs.ReadingsForC.{readings_for_c}
use Rattle.outcomes.proofs.Listed.{listing_short, cut}
use Rattle.outcomes.proofs.Listed as Listed

pub promises : Promises
promises = record {
  demand_1 = demand_1;
  words = words;
  rows = rows;
  reasons = reason_table;
  vocabulary = vocabulary;
  demand_2 = demand_2;
  demand_3 = demand_3;
  for_c = for_c;
  example = example;
  straight = straight_page;
  straight_cases = straight_cases;
  rounds = round_table;
  roles = role_table;
  halves = halves_in_turn;
  echo = worked_echo;
  rounds_for_c = rounds_for_c;
  roles_for_c = roles_for_c;
  listings = listing_table;
  program = record { fits = listing_short; cut = cut; printed = λ bytes wrote long. Listed.printed bytes wrote long };
  printed = printed;
  readings = reading_table;
  round_trips = round_trips;
  readings_for_c = readings_for_c;
  looks = record { looks = looks_emitted };
  meanings = meanings;
  cases = worked.0;
  orders = worked.1;
  corners = worked.2;
}
