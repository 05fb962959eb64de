-- Demand 3, each claim by one citation.
use Rattle.promises.specs.Demand3.{Demand3}
use Rattle.promises.proofs.DecisionLaws.{decided_match, decided_creation}
use Rattle.promises.proofs.RefusalLaws.{no_match, no_creation}
use Rattle.promises.proofs.ValidLaws.{run_valid_again}
use Rattle.promises.proofs.ReadLaws.{match_reads, create_reads}

pub demand_3 : Demand3
demand_3 = record {
  matching = decided_match;
  creating = decided_creation;
  refused_matching = no_match;
  refused_creating = no_creation;
  valid_again = run_valid_again;
  reads_matching = match_reads;
  reads_creating = create_reads;
}
