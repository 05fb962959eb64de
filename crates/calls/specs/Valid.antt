-- What is lent to compile and is within its limits, and what is lent to run and is good, in the words of document 01.
use Rattle.std.specs.Prelude.{ℕ, ◌≤◌, ◌≡◌, List, length}
use Rattle.terms.specs.Rules.{used_rows}
use Rattle.terms.specs.Table.{ValidTable}
use Rattle.stores.specs.GoodStores as Stores
use Rattle.numbers.specs.Limits.{most_names, variables, most_pattern_rows, most_term_rows, most_certificates, message_cells}
use Rattle.calls.specs.Run.{Lent}

-- not 1, in compile: 1 to 96 pattern rows, 64 kinds, 64 object cells, 64 named cells
pub record CompileWithin (pattern kinds objects named : List ℕ) : Type 0 where
  pub pattern_rows_lem : (1 ≤ length pattern) × (length pattern ≤ most_pattern_rows)
  pub kinds_length : length kinds ≡ variables
  pub objects_length : length objects ≡ variables
  pub named_length : length named ≡ variables

-- not 1, in run, for what is lent: 64 kinds, 64 object cells, 256 message cells, at most 32 certificates and 4,096 rows, a name counter of at most 65,536
pub record LentWithin (x : Lent) : Type 0 where
  pub kinds : length x.kinds ≡ variables
  pub objects : length x.objects ≡ variables
  pub messages : length x.messages ≡ message_cells
  pub certificates : length x.certificates ≤ most_certificates
  pub terms : length x.terms ≤ most_term_rows
  pub counter : x.counter ≤ most_names

-- not 3: kinds, cells, certificates and accumulator
abbrev pub ValidStores : Lent → Type 0
ValidStores x = Stores.GoodStores x.terms (used_rows x.terms) x.kinds x.objects x.messages x.certificates x.accumulator

-- what is lent to run is good: neither 1, 2 nor 3
pub record Valid (x : Lent) : Type 0 where
  pub within : LentWithin x
  pub table : ValidTable x.terms x.counter
  pub stores : ValidStores x
