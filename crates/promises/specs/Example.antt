-- Demand 3 on worked cases: its premises are met, and the figures lead to what the runs leave, or nowhere.
use Rattle.std.specs.Prelude.{ℕ, ◌≡◌, true, false, List, [], ◌∷◌, replicate}
use Rattle.std.specs.Prelude.{Some}
use Rattle.terms.specs.Shape as Shape
use Rattle.terms.specs.Row.{row_of}
use Rattle.stores.specs.Cells.{unset}
use Rattle.theory.specs.TermModel.{Term, atom, encrypted, tupled, cons, nil}
use Rattle.calls.specs.Run.{Lent, run}
use Rattle.calls.specs.Cases.{row, object_row, raw_row, tuple_row, lent, P1_code, P2_code, P9_code}
use Rattle.theory.specs.Figure2.{TermStores}
use Rattle.promises.specs.Answers.{RunAnswers}
use Rattle.promises.specs.Reading.{after, message_before}
use Rattle.promises.specs.Demand3.{Prepared, MatchesTo, CreatesTo}

-- P1, the listing's input, with six free rows
abbrev pub P1_pattern : List ℕ
P1_pattern = object_row 0 ∷ raw_row 0 ∷ tuple_row 1 (0 ∷ 1 ∷ []) ∷ []

abbrev pub P1_lent : Lent
P1_lent = lent (2 ∷ 10 ∷ []) [] 2 (row_of (Shape.atom 2 3) ∷ row_of (Shape.atom 3 1) ∷ row_of (Shape.tupled (0 ∷ 1 ∷ [])) ∷ replicate 6 0) 4

-- the tuple of nonce 3 and agent 1
abbrev pub P1_message : Term
P1_message = tupled (cons (atom 2 3) (cons (atom 3 1) nil))

-- P2, from an empty table
abbrev pub P2_pattern : List ℕ
P2_pattern = object_row 0 ∷ row (5 ∷ 1 ∷ 1 ∷ 2 ∷ 3 ∷ 0 ∷ 1 ∷ 0 ∷ []) ∷ []

abbrev pub P2_lent : Lent
P2_lent = lent (2 ∷ 7 ∷ 4 ∷ 5 ∷ []) [] unset (replicate 6 0) 0

-- nonce 1 under public key 0
abbrev pub P2_message : Term
P2_message = encrypted (atom 4 0) (atom 2 1)

-- P9, the empty tuple against a tuple of one part, with two free rows
abbrev pub P9_pattern : List ℕ
P9_pattern = tuple_row 0 [] ∷ []

abbrev pub P9_lent : Lent
P9_lent = lent (10 ∷ []) [] 1 (row_of (Shape.atom 3 0) ∷ row_of (Shape.tupled (0 ∷ [])) ∷ replicate 2 0) 0

-- the tuple of agent 0
abbrev pub P9_message : Term
P9_message = tupled (cons (atom 3 0) nil)

pub record Example : Type 0 where
  pub P1_prepared : Prepared false P1_pattern P1_lent P1_code
  pub P1_message_held : message_before P1_lent ≡ Some P1_message
  pub P1_matches : MatchesTo P1_pattern P1_lent P1_message (after P1_lent (run P1_lent P1_code))
  pub P2_prepared : Prepared true P2_pattern P2_lent P2_code
  pub P2_creates : CreatesTo P2_pattern P2_lent P2_message (after P2_lent (run P2_lent P2_code))
  pub P9_prepared : Prepared false P9_pattern P9_lent P9_code
  pub P9_message_held : message_before P9_lent ≡ Some P9_message
  -- stuck at word 1 with reason 4, and figure 2 leads nowhere
  pub P9_stuck : RunAnswers (run P9_lent P9_code) 10 1 4
  pub P9_nowhere : (n : TermStores) → MatchesTo P9_pattern P9_lent P9_message n → ⊥
