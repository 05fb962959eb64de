-- Demand 1, each claim by one citation.
use Rattle.promises.specs.Demand1.{Demand1}
use Rattle.promises.proofs.NumberLaws.{compile_table, run_table}

pub demand_1 : Demand1
demand_1 = record {
  compiles = compile_table;
  runs = run_table;
}
