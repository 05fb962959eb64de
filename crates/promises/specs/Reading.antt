-- What lent words mean: a row is a term, a cell is the term of its row, and the cells together are the stores of the figures.
use Rattle.std.specs.Prelude.{ℕ, List, get_or, take}
use Rattle.std.specs.Prelude.{Option}
use Rattle.std.specs.Option.{option_map}
use Rattle.stores.specs.Cells.{unset, held}
use Rattle.theory.specs.TermModel.{Term}
use Rattle.numbers.specs.Limits.{named_cells}
use Rattle.theory.specs.Figure2.{TermStores}
use Rattle.calls.specs.Run.{Lent, RunOutcome}
use Rattle.theory.specs.Meaning.{meaning, certified_term}

-- the term in a cell, where it is set
abbrev pub term_in : List ℕ → ℕ → Option Term
term_in terms cell = option_map (meaning terms) (held cell)

-- σ, ρ, the name counter and ν
abbrev pub stores_in : List ℕ → List ℕ → List ℕ → List ℕ → ℕ → TermStores
stores_in terms certificates objects messages counter = record {
  σ = λ v. term_in terms (get_or objects v unset);
  ρ = λ r. term_in terms (get_or (take named_cells messages) r unset);
  memory = record { counter = counter; ν = certified_term terms certificates };
}

-- what is lent to a run, and what the run leaves
abbrev pub before : Lent → TermStores
before x = stores_in x.terms x.certificates x.objects x.messages x.counter

abbrev pub after : Lent → RunOutcome → TermStores
after x o = stores_in o.terms x.certificates o.objects o.messages o.counter

-- the accumulator's term
abbrev pub message_before : Lent → Option Term
message_before x = term_in x.terms x.accumulator

abbrev pub message_after : RunOutcome → Option Term
message_after o = term_in o.terms o.accumulator
