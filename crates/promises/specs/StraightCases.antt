-- The engine on worked cases: what it leaves, which row it is stuck at, and the premises of its decisions met.
use Rattle.std.specs.Prelude.{ℕ, ◌≡◌, true, false, List, [], ◌∷◌, replicate}
use Rattle.answers.specs.declared.Reason.TheVariants.{Unset, Differs, PartCount, NoCertificate}
use Rattle.answers.specs.declared.direct.Direct.TheVariants.{Done, WrittenWhileSet, Stuck, NoRoom}
use Rattle.terms.specs.Shape.{atom, encrypted, tupled}
use Rattle.terms.specs.Row.{row_of}
use Rattle.stores.specs.Cells.{unset}
use Rattle.calls.specs.Run.{Lent}
use Rattle.calls.specs.Direct.{as_given, direct}
use Rattle.calls.specs.Cases.{row, object_row, raw_row, tuple_row, let_row, kinds, cells}
use Rattle.promises.specs.Answers.{RunAnswers}
use Rattle.promises.specs.Example.{P1_pattern, P2_pattern, P9_pattern}
use Rattle.promises.specs.Straight.{ran_second, Roomy}

-- what the bench lends, with all named cells unset and no certificates
abbrev pub on_bench : List ℕ → List ℕ → ℕ → List ℕ → ℕ → Lent
on_bench ks objects accumulator terms counter = record {
  kinds = kinds ks;
  objects = cells objects;
  messages = cells [];
  certificates = [];
  accumulator = accumulator;
  terms = terms;
  counter = counter;
}

-- nonce 3, agent 1, and the tuple of both; six free rows
abbrev pub P1_terms : List ℕ
P1_terms = row_of (atom 2 3) ∷ row_of (atom 3 1) ∷ row_of (tupled (0 ∷ 1 ∷ [])) ∷ replicate 6 0

abbrev pub P1_bench : Lent
P1_bench = on_bench (2 ∷ 10 ∷ []) [] 2 P1_terms 4

abbrev pub P2_bench : Lent
P2_bench = on_bench (2 ∷ 7 ∷ 4 ∷ 5 ∷ []) [] unset (replicate 6 0) 0

abbrev pub P9_bench : Lent
P9_bench = on_bench (10 ∷ []) [] 1 (row_of (atom 3 0) ∷ row_of (tupled (0 ∷ [])) ∷ []) 0

abbrev pub P10_bench : Lent
P10_bench = on_bench (4 ∷ 3 ∷ []) (unset ∷ 0 ∷ []) 1 (row_of (atom 3 1) ∷ row_of (atom 4 0) ∷ []) 1

-- the tuple of P1 against a pattern whose second part is c : 5
abbrev pub constant_part : List ℕ
constant_part = object_row 0 ∷ row (2 ∷ 2 ∷ 0 ∷ 5 ∷ []) ∷ tuple_row 1 (0 ∷ 1 ∷ []) ∷ []

abbrev pub constant_bench : Lent
constant_bench = on_bench (2 ∷ 10 ∷ 1 ∷ []) [] 2 P1_terms 4

-- no message: for a nonce, for let r0 = n in r0, and for a tuple of c : 5 twice
abbrev pub empty_bench : List ℕ → Lent
empty_bench ks = on_bench ks [] unset [] 0

pub record StraightCases : Type 0 where
  -- a match leaves the accumulator as given
  pub P1 : direct false P1_pattern P1_bench
      ≡ record { answer = Done; objects = cells (0 ∷ 2 ∷ []); named = cells (1 ∷ []); accumulator = 2; terms = P1_terms; counter = 4 }
  -- a creation hands back its message
  pub P2 : direct true P2_pattern P2_bench
      ≡ record {
        answer = Done;
        objects = cells (2 ∷ 3 ∷ 1 ∷ 0 ∷ []);
        named = cells [];
        accumulator = 3;
        terms = row_of (atom 5 0) ∷ row_of (atom 4 0) ∷ row_of (atom 2 1) ∷ row_of (encrypted 1 2) ∷ replicate 2 0;
        counter = 2;
      }
  -- stuck at a row, for the reason for which run is stuck at a word
  pub P9 : direct false P9_pattern P9_bench ≡ as_given (Stuck 0 PartCount) P9_bench
  pub P10 : direct false (row (4 ∷ 0 ∷ 0 ∷ 0 ∷ 1 ∷ []) ∷ []) P10_bench ≡ as_given (Stuck 0 NoCertificate) P10_bench
  pub second_part : direct false constant_part constant_bench ≡ as_given (Stuck 1 Differs) constant_bench
  pub second_part_word : RunAnswers (ran_second false constant_part constant_bench) 10 8 3
  -- without a message a matched let is stuck at the first row of p2
  pub no_message : direct false (object_row 0 ∷ raw_row 0 ∷ let_row 0 0 1 ∷ []) (empty_bench (2 ∷ [])) ≡ as_given (Stuck 1 Unset) (empty_bench (2 ∷ []))
  -- 6 of the second part comes before the lack of a message
  pub P5 : direct false (row (2 ∷ 0 ∷ 0 ∷ 5 ∷ []) ∷ row (2 ∷ 0 ∷ 0 ∷ 5 ∷ []) ∷ tuple_row 1 (0 ∷ 1 ∷ []) ∷ []) (empty_bench (1 ∷ 10 ∷ []))
      ≡ as_given (WrittenWhileSet 1) (empty_bench (1 ∷ 10 ∷ []))
  -- no row is unused
  pub no_room : direct true (object_row 0 ∷ []) (empty_bench (2 ∷ [])) ≡ as_given (NoRoom 0) (empty_bench (2 ∷ []))
  -- the premises of what is decided
  pub P1_roomy : Roomy false P1_pattern P1_bench
  pub P2_roomy : Roomy true P2_pattern P2_bench
