-- All that is promised of compile, run, the engine straight from the pattern, a round, the bundle, the listing and its reader. That the functions give it is the crate `product`.
use Rattle.std.specs.Prelude.{ℕ, List}
use Rattle.calls.specs.Cases.{Cases}
use Rattle.calls.specs.Orders.{Orders, Corners}
use Rattle.theory.specs.TermModel.{Names}
use Rattle.calls.specs.Run.{Lent}
use Rattle.promises.specs.Words.{Words}
use Rattle.promises.specs.Rows.{Rows}
use Rattle.promises.specs.Reasons.{ReasonTable}
use Rattle.promises.specs.Vocabulary.{Vocabulary}
use Rattle.promises.specs.Looks.{Looks}
use Rattle.promises.specs.Meanings.{Meanings}
use Rattle.promises.specs.Demand1.{Demand1}
use Rattle.promises.specs.Demand2.{Demand2}
use Rattle.promises.specs.Demand3.{Demand3}
use Rattle.promises.specs.Straight.{Straight}
use Rattle.promises.specs.Example.{Example}
use Rattle.promises.specs.StraightCases.{StraightCases}
use Rattle.promises.specs.ForC.{ForC}
use Rattle.calls.specs.Round.{RoundLent}
use Rattle.promises.specs.Rounds.{RoundTable}
use Rattle.calls.specs.Role.{RoleLent}
use Rattle.promises.specs.Roles.{RoleTable}
use Rattle.promises.specs.Halves.{HalvesInTurn}
use Rattle.promises.specs.Echo.{Echo}
use Rattle.promises.specs.RoundsForC.{RoundsForC}
use Rattle.promises.specs.RolesForC.{RolesForC}
use Rattle.promises.specs.Listing.{ListingTable, Printed, Program}
use Rattle.promises.specs.Readings.{LentText, ReadingTable, RoundTrips}
use Rattle.promises.specs.ReadingsForC.{ReadingsForC}

pub record Promises : Type 0 where
  -- every number exactly where its condition holds, and nothing changed by a refusal
  pub demand_1 : Demand1
  -- the rules that 9 and 2 hold a word and a row to, field by field; why a run is stuck or out of room, in the state before the word
  pub words : Words
  pub rows : Rows
  pub reasons : (x : Lent) (code : List ℕ) → ReasonTable x code
  -- what keys, names and certificates do
  pub vocabulary : (n : Names) → Vocabulary n
  -- the packed code of figures 5 and 6, and one step after another
  pub demand_2 : Demand2
  -- finished exactly where figures 2 and 3 lead somewhere, with what they give
  pub demand_3 : Demand3
  -- the same for what firmware calls, over bytes
  pub for_c : ForC
  -- its premises met by P1, P2 and P9
  pub example : Example
  -- straight from the pattern is compile, then run; every number exactly where its condition holds
  pub straight : Straight
  pub straight_cases : StraightCases
  -- every number of a round exactly where its condition holds, and nothing changed by any answer but 0
  pub rounds : (x : RoundLent) (code : List ℕ) → RoundTable x code
  -- every number of compiling a role exactly where its condition holds, half after half
  pub roles : (ends slice : List ℕ) (x : RoleLent) → RoleTable ends slice x
  -- a round is one half after the other, finished exactly where figure 2 and then figure 3 lead somewhere, and a role compiled once serves every round
  pub halves : HalvesInTurn
  -- its premises met by a round that sends a nonce back
  pub echo : Echo
  -- the same over bytes, and what a take does there
  pub rounds_for_c : RoundsForC
  pub roles_for_c : RolesForC
  -- what a bundle's listing prints
  pub listings : (bytes : List ℕ) → ListingTable bytes
  -- the program around it
  pub program : Program
  -- and what it prints of P1
  pub printed : Printed
  -- every number of reading code lines back exactly where its condition holds, and nothing written with any answer but 0
  pub readings : (text kinds code : List ℕ) → LentText text → ReadingTable text kinds code
  -- what is printed is read, and what is read prints the same
  pub round_trips : RoundTrips
  -- the same over bytes
  pub readings_for_c : (text kinds code : List ℕ) → LentText text → ReadingsForC text kinds code
  -- the order of 6 and 7, a line a form
  pub looks : Looks
  -- what a row means, and what a pattern's rows are
  pub meanings : Meanings
  -- P1 to P10
  pub cases : Cases
  -- examples of that order, and further corners
  pub orders : Orders
  pub corners : Corners
