-- Demand 2, each claim by one citation.
use Rattle.promises.specs.Demand2.{Demand2}
use Rattle.promises.proofs.TableLaws.{table_written, same_code, step_by_step}

pub demand_2 : Demand2
demand_2 = record { compiles = table_written; sees = same_code; runs = step_by_step }
