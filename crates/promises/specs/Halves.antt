-- Halves: a round is the run of one half and then of the other. Each half is decided by its figure, the second from the stores that the first left,
-- and the set cells that compile carries on are those that a finished half leaves, so that a role compiled once serves every round.
use Rattle.std.specs.Prelude.{ℕ, suc, ◌+◌, ◌<◌, ◌≤◌, ◌≡◌, ◌↔◌, ◌≢◌, Bool, true, false, List, [], ◌∷◌, ◌++◌, map, length, take, drop}
use Rattle.std.specs.Prelude.{Option, Some}
use Rattle.numbers.specs.Kinds.{kind_in}
use Rattle.numbers.specs.Limits.{named_cells, most_code_words, most_rounds}
use Rattle.answers.specs.Numbers.{compiled_number}
use Rattle.answers.specs.RoundNumbers.{rounded_number}
use Rattle.answers.specs.declared.Ran.{Ran as RunAnswer}
use Rattle.answers.specs.declared.Ran.TheVariants.{Done, Limit, BadTerm, BadStore, BadWord, Stuck, NoRoom}
use Rattle.answers.specs.declared.rounds.Rounded.TheVariants.{Ran}
use Rattle.terms.specs.Rules.{used_rows}
use Rattle.stores.specs.Cells.{unset}
use Rattle.stores.specs.GoodStores.{UnsetOrUsed}
use Rattle.patterns.specs.Tree.{pattern_of}
use Rattle.theory.specs.TermModel.{Term}
use Rattle.theory.specs.Machine.{Line}
use Rattle.theory.specs.Emission.{Env, ok}
use Rattle.theory.specs.Figure2.{TermStores, Matches}
use Rattle.theory.specs.Figure3.{Creates}
use Rattle.calls.specs.Compile.{SameSet, code_words, entry}
use Rattle.calls.specs.Half.{half}
use Rattle.calls.specs.Run.{Lent, RunOutcome, lent_after, run}
use Rattle.calls.specs.Frame.{framed}
use Rattle.calls.specs.Round.{RoundLent, RoundOutcome, untouched, received, taken_of, round}
use Rattle.calls.specs.Role.{RoleLent, RoleOutcome, again, in_turn, ends_from, role}
use Rattle.promises.specs.Answers.{run_number}
use Rattle.promises.specs.Reading.{term_in, stores_in, before, message_before}
use Rattle.promises.specs.Conditions.{Valid, Room}
use Rattle.promises.specs.Demand3.{Prepared}
use Rattle.promises.specs.Rounds.{RoundAnswers, Due}

-- ONE HALF AFTER THE OTHER

-- the run of the first half, what it leaves, and the run of the second half from there
abbrev pub matched : RoundLent → List ℕ → RunOutcome
matched x m = run (received x) m

abbrev pub between : RoundLent → List ℕ → Lent
between x m = lent_after (received x) (matched x m)

abbrev pub created : RoundLent → List ℕ → List ℕ → RunOutcome
created x m c = run (between x m) c

-- after a half that is done comes what is next; any other ends the round at its word, counted from INPUT
abbrev pub after_half : RoundLent → ℕ → RunAnswer → RoundOutcome → RoundOutcome
after_half x place (Done words) next = next
after_half x place Limit next = untouched (Ran Limit) x
after_half x place (BadTerm row) next = untouched (Ran (BadTerm row)) x
after_half x place BadStore next = untouched (Ran BadStore) x
after_half x place (BadWord word) next = untouched (Ran (BadWord (place + word))) x
after_half x place (Stuck word reason) next = untouched (Ran (Stuck (place + word) reason)) x
after_half x place (NoRoom word) next = untouched (Ran (NoRoom (place + word))) x

-- what a done round leaves is what its second half left, with the accumulator for its answer
abbrev pub sent : ℕ → RoundLent → RunOutcome → RoundOutcome
sent words x o = record {
  answer = Ran (Done words);
  session = record { used = used_rows o.terms; counter = o.counter; round = suc x.session.round; message = unset; answer = o.accumulator };
  objects = o.objects;
  messages = o.messages;
  terms = o.terms;
}

abbrev pub by_halves : RoundLent → List ℕ → List ℕ → RunOutcome → RunOutcome → RoundOutcome
by_halves x m c first second =
    after_half x 1 first.answer (after_half x (1 + length m) second.answer (sent (length (framed (m ++ c))) x second))

-- WHAT IS COMPILED

-- which object and named cells are set
abbrev pub set_cells : Lent → Env
set_cells x = entry x.objects (take named_cells x.messages)

-- a half's code, from the set cells that it is compiled for to those that it carries on
pub record HalfCode (create : Bool) (rows kinds : List ℕ) (set : Env) (code : List ℕ) (next : Env) : Type 0 where
  pub lines : List Line
  pub env : Env
  pub compiles : half create rows kinds set ≡ ok lines env
  pub words : code_words lines ≡ code
  pub carries : again env ≡ next

-- a round's two patterns and their words
pub record RoundHalves : Type 0 where
  pub matching : List ℕ
  pub creating : List ℕ
  pub first : List ℕ
  pub second : List ℕ

abbrev pub round_words : RoundHalves → List ℕ
round_words r = framed (r.first ++ r.second)

-- the creating half is compiled for the cells that are set once the matching half is done
pub record RoundCode (kinds : List ℕ) (set : Env) (r : RoundHalves) (next : Env) : Type 0 where
  pub carried : Env
  pub matches : HalfCode false r.matching kinds set r.first carried
  pub creates : HalfCode true r.creating kinds carried r.second next

-- A ROUND BY THE FIGURES

-- what is lent and its record pass 1 to 3
pub record ValidRound (x : RoundLent) : Type 0 where
  pub valid : Valid (received x)
  pub used : x.session.used ≡ used_rows x.terms
  pub answer : UnsetOrUsed (used_rows x.terms) x.session.answer

-- a round's turn, with the set cells that its code is for, and as many free rows and names as it has words
pub record ReadyRound (set : Env) (x : RoundLent) (code : List ℕ) : Type 0 where
  pub valid : ValidRound x
  pub cells : set_cells (received x) ≡ set
  pub few : x.rounds ≤ most_rounds
  pub goes_on : x.session.round < x.rounds
  pub taken : x.session.answer ≡ unset
  pub room : Room (received x) (length code)

-- the answer's term, and what the stores mean after a round
abbrev pub answer_after : RoundOutcome → Option Term
answer_after o = term_in o.terms o.session.answer

abbrev pub stores_after : RoundLent → RoundOutcome → TermStores
stores_after x o = stores_in o.terms x.certificates o.objects o.messages o.session.counter

-- figure 2 leads from the stores and the message m to some stores, and figure 3 from those to the message a and the stores n
pub record Leads (r : RoundHalves) (x : RoundLent) (m a : Term) (n : TermStores) : Type 0 where
  pub stores : TermStores
  pub matches : Matches (kind_in x.kinds) (before (received x)) (pattern_of r.matching) m stores
  pub creates : Creates (kind_in x.kinds) stores (pattern_of r.creating) a n

-- The round finishes exactly where the figures lead to a message and stores, and leaves those, the message as its answer;
-- it is stuck exactly where they lead to none; it is never out of room.
pub record DecidesRound (r : RoundHalves) (x : RoundLent) (m : Term) : Type 0 where
  pub finishes : (a : Term) (n : TermStores)
      → Leads r x m a n
      ↔ (RoundAnswers (round x (round_words r)) 0 (length (round_words r)) 0
      × (answer_after (round x (round_words r)) ≡ Some a) × (stores_after x (round x (round_words r)) ≡ n))
  pub stuck : (rounded_number (round x (round_words r)).answer ≡ 10) ↔ ((a : Term) (n : TermStores) → Leads r x m a n → ⊥)
  pub room : rounded_number (round x (round_words r)).answer ≢ 11

-- ROUND AFTER ROUND

-- what was lent, after a round; then the answer is taken and a message put
abbrev pub round_after : RoundLent → RoundOutcome → RoundLent
round_after x o = record {
  session = o.session;
  rounds = x.rounds;
  kinds = x.kinds;
  objects = o.objects;
  messages = o.messages;
  certificates = x.certificates;
  terms = o.terms;
}

abbrev pub put_message : ℕ → RoundLent → RoundLent
put_message message x =
    let s = (taken_of x.session).session in
    record {
      session = record { used = s.used; counter = s.counter; round = s.round; message = message; answer = s.answer };
      rounds = x.rounds;
      kinds = x.kinds;
      objects = x.objects;
      messages = x.messages;
      certificates = x.certificates;
      terms = x.terms;
    }

-- a role's rounds in turn, each compiled for the cells that the rounds before it leave set
pub data RoleCode (kinds : List ℕ) : Env → List RoundHalves → Type 0 where
  none : {set : Env} → RoleCode kinds set []
  more : {set carried : Env} {r : RoundHalves} {rounds : List RoundHalves}
      → RoundCode kinds set r carried → RoleCode kinds carried rounds → RoleCode kinds set (r ∷ rounds)

-- From any valid stores with the set cells that it was compiled for a round is decided by the figures, and once done it leaves
-- the set cells that the next round is compiled for.
pub record RoundPlays (kinds : List ℕ) (set : Env) (r : RoundHalves) (next : Env) : Type 0 where
  pub few_words : length (round_words r) ≤ 1536
  pub decides : (x : RoundLent) {m : Term} → x.kinds ≡ kinds → ReadyRound set x (round_words r) → message_before (received x) ≡ Some m → DecidesRound r x m
  pub leaves : (x : RoundLent) → x.kinds ≡ kinds → set_cells (received x) ≡ set → rounded_number (round x (round_words r)).answer ≡ 0
      → set_cells (received (round_after x (round x (round_words r)))) ≡ next

-- round after round
pub data RolePlays (kinds : List ℕ) : Env → List RoundHalves → Type 0 where
  ended : {set : Env} → RolePlays kinds set []
  next : {set carried : Env} {r : RoundHalves} {rounds : List RoundHalves}
      → RoundPlays kinds set r carried → RolePlays kinds carried rounds → RolePlays kinds set (r ∷ rounds)

-- the halves' rows, one count after another
abbrev pub half_rows : List ℕ → List ℕ → List (List ℕ)
half_rows [] rows = []
half_rows (count ∷ counts) rows = take count rows ∷ half_rows counts (drop count rows)

abbrev pub round_patterns : List RoundHalves → List (List ℕ)
round_patterns [] = []
round_patterns (r ∷ rounds) = r.matching ∷ r.creating ∷ round_patterns rounds

-- the rounds of a role that was compiled with 0: of its rows, with its ends, and with its words in front of the slice
pub record RoleRounds (x : RoleLent) (slice : List ℕ) (o : RoleOutcome) : Type 0 where
  pub rounds : List RoundHalves
  pub patterns : round_patterns rounds ≡ half_rows x.counts x.rows
  pub compiled : RoleCode x.kinds (entry x.objects x.named) rounds
  pub plays : RolePlays x.kinds (entry x.objects x.named) rounds
  pub few_rounds : length rounds ≤ most_rounds
  pub few_words : length (in_turn (map round_words rounds)) ≤ 24576
  pub ends : o.ends ≡ ends_from 0 (map round_words rounds)
  pub words : o.code ≡ in_turn (map round_words rounds) ++ drop (length (in_turn (map round_words rounds))) slice

pub record HalvesInTurn : Type 0 where
  -- a round that is due is the run of one half and then of the other
  pub in_turn_lem : (x : RoundLent) (m c : List ℕ) → Due x (framed (m ++ c)) → length m ≤ most_code_words → length c ≤ most_code_words
      → round x (framed (m ++ c)) ≡ by_halves x m c (matched x m) (created x m c)
  -- cells of which the same are set are the same to compile
  pub same_cells : (x : Lent) {objects named : List ℕ} → SameSet x.objects objects → SameSet (take named_cells x.messages) named → set_cells x ≡ entry objects named
  -- a half is compiled as a pattern alone is, so demand 3 decides its run
  pub prepared : (x : Lent) {create : Bool} {rows code : List ℕ} {next : Env} → HalfCode create rows x.kinds (set_cells x) code next
      → Valid x → Room x (length code) → Prepared create rows x code
  -- a finished half leaves set exactly the cells that compile carries on
  pub carried : (x : Lent) {create : Bool} {rows code : List ℕ} {next : Env} → HalfCode create rows x.kinds (set_cells x) code next
      → run_number (run x code) ≡ 0 → set_cells (lent_after x (run x code)) ≡ next
  -- so demand 3 decides the second half from what the first left
  pub prepared_second : (x : RoundLent) {set next : Env} {r : RoundHalves} → RoundCode x.kinds set r next → ReadyRound set x (round_words r)
      → run_number (matched x r.first) ≡ 0 → Prepared true r.creating (between x r.first) r.second
  -- and the figures decide the round
  pub plays : {kinds : List ℕ} {set next : Env} {r : RoundHalves} → set.next ≡ 0 → RoundCode kinds set r next → RoundPlays kinds set r next
  -- after a finished round what was lent is valid again, for any message of the table
  pub valid_again : (x : RoundLent) (code : List ℕ) → rounded_number (round x code).answer ≡ 0
      → (message : ℕ) → UnsetOrUsed (used_rows (round x code).terms) message → ValidRound (put_message message (round_after x (round x code)))
  -- a role's rounds are such rounds, and play in turn
  pub roles : (x : RoleLent) (ends slice : List ℕ) → compiled_number (role ends slice x).answer ≡ 0 → RoleRounds x slice (role ends slice x)
