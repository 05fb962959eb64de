-- A round by the figures, worked: a nonce is received and sent back. The premises of the halves' promises are met.
use Rattle.std.specs.Prelude.{◌≡◌, [], ◌∷◌, replicate}
use Rattle.std.specs.Prelude.{Some}
use Rattle.answers.specs.declared.Compiled.TheVariants.{Done}
use Rattle.terms.specs.Shape as Shape
use Rattle.terms.specs.Row.{row_of}
use Rattle.stores.specs.Cells.{unset}
use Rattle.theory.specs.TermModel.{Term, atom}
use Rattle.theory.specs.Emission.{Env}
use Rattle.calls.specs.Cases.{object_row, kinds, cells, word}
use Rattle.calls.specs.Round.{RoundLent, received, round}
use Rattle.calls.specs.Role.{RoleLent, role}
use Rattle.promises.specs.Reading.{message_before}
use Rattle.promises.specs.Rounds.{RoundAnswers}
use Rattle.promises.specs.Halves.{set_cells, RoundHalves, round_words, RoundCode, ReadyRound, stores_after, Leads}

-- both patterns are object variable 0: DECODE sets it, and ENCODE reads it
abbrev pub echo : RoundHalves
echo = record { matching = object_row 0 ∷ []; creating = object_row 0 ∷ []; first = word 5 0 0 0 ∷ []; second = word 6 0 0 0 ∷ [] }

-- nonce 3 waits in row 0, and four rows are free
abbrev pub echo_lent : RoundLent
echo_lent = record {
  session = record { used = 1; counter = 4; round = 0; message = 0; answer = unset };
  rounds = 1;
  kinds = kinds (2 ∷ []);
  objects = cells [];
  messages = replicate 256 unset;
  certificates = [];
  terms = row_of (Shape.atom 2 3) ∷ replicate 4 0;
}

abbrev pub echoed : Term
echoed = atom 2 3

-- the role of that one round, and a slice of four words
abbrev pub echo_role : RoleLent
echo_role = record { rows = object_row 0 ∷ object_row 0 ∷ []; counts = 1 ∷ 1 ∷ []; kinds = kinds (2 ∷ []); objects = cells []; named = cells [] }

pub record Echo : Type 0 where
  pub role_compiled : role (0 ∷ []) (replicate 4 7) echo_role ≡ record { answer = Done 4; half = 0; ends = 4 ∷ []; code = round_words echo }
  pub next : Env
  pub code : RoundCode echo_lent.kinds (set_cells (received echo_lent)) echo next
  pub ready : ReadyRound (set_cells (received echo_lent)) echo_lent (round_words echo)
  pub message_held : message_before (received echo_lent) ≡ Some echoed
  -- done after its four words, and the figures lead from the nonce to the nonce
  pub done : RoundAnswers (round echo_lent (round_words echo)) 0 4 0
  pub leads : Leads echo echo_lent echoed echoed (stores_after echo_lent (round echo_lent (round_words echo)))
