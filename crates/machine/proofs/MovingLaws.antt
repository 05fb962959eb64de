-- LOAD, STORE, ENCODE, DECODE and MATCH, a way out at a time.
use Rattle.std.specs.Prelude.{Ok, Err}
use Prim.Native.Nat.{ℕ, ◌<◌}
use mathlib.Core.Path.{◌≡◌, refl}
use mathlib.Core.List.{List}
use lib.ListN.{length, get_or, set}
use Rattle.answers.specs.declared.Reason.{Reason}
use Rattle.numbers.specs.declared.Object.{Object}
use Rattle.numbers.specs.declared.Raw.{Raw}
use Rattle.numbers.specs.declared.TermRow.{TermRow}
use Rattle.code.specs.declared.Instruction.TheVariants.{Load, Store, Decode, Encode, Match}
use Rattle.stores.specs.Cells.{unset}
use Rattle.numbers.specs.Kinds.{kind_in}
use Rattle.theory.specs.World.{is, same}
use Rattle.world.specs.Operations.{Tests, TestsOver}
use Rattle.machine.specs.Machine.{with_objects, with_messages, with_term_rows, state_at, holding, next, DoesStep, Answered}
use Rattle.machine.specs.declared.Registers.{Registers}
use Rattle.machine.specs.declared.Halt.TheVariants.{Stuck}
use Rattle.machine.proofs.StateLaws.{accumulator_unset, object_unset, message_unset, accumulator_set, object_set, message_set}
use Rattle.machine.proofs.SetLaws.{SetIn, UnsetIn, accumulator_given, object_given, message_given, row-ways}
use Rattle.machine.proofs.AskLaws.{tested_holds, tested_not, tests_holds, tests_not}
use Rattle.machine.proofs.AgreeLaws.{same_lengths, messages_lengths, objects_lengths, reads, gets, unset_stops, stops}

module _ (g : Registers) (messages : List ℕ) (r : Raw) (kind : ℕ → ℕ) (cell : TermRow) (read : cell.0 ≡ get_or messages r.0 unset) where
  abbrev Loads : Answered → Type 0
  Loads answer = DoesStep kind (Load r) g (λ x. with_messages x messages) answer (λ x. with_messages x messages)

  pub load_unset : (answer : Answered) → UnsetIn cell answer → Loads answer
  load_unset answer out x = rw out.stops (unset_stops _ _ (message_unset _ _ _ _ r.0 read out.is_unset))

  pub load_next : (row : TermRow) (g' : Registers) → SetIn cell row → g' ≡ holding g row → Loads (Ok g')
  load_next row g' set e x = rw e (reads _ _ (message_given _ _ _ _ set r.0 read) (next (accumulator_set _ _ _ _ row.0 set.is_row) (same_lengths _)))

pub ruleset load-ways = (row-ways, load_unset, load_next)

module _ (g : Registers) (messages : List ℕ) (r : Raw) (kind : ℕ → ℕ) where
  abbrev Stores : Answered → List ℕ → Type 0
  Stores answer messages' = DoesStep kind (Store r) g (λ x. with_messages x messages) answer (λ x. with_messages x messages')

  pub store_unset : (answer : Answered) → UnsetIn g.accumulator answer → Stores answer messages
  store_unset answer out x = rw out.stops (unset_stops _ _ (accumulator_unset _ _ _ _ out.is_unset))

  pub store_next : (row : TermRow) (messages' : List ℕ) → SetIn g.accumulator row → r.0 < length messages → messages' ≡ set messages r.0 row.0 → Stores (Ok g) messages'
  store_next row messages' set inside e x =
      rw e (reads _ _ (accumulator_given _ _ _ set) (next (message_set _ _ _ _ _ set.is_row r.0 inside) (messages_lengths _ r.0 _)))

pub ruleset store-ways = (row-ways, store_unset, store_next)

module _ (g : Registers) (objects : List ℕ) (v : Object) (kind : ℕ → ℕ) (cell : TermRow) (read : cell.0 ≡ get_or objects v.0 unset) where
  abbrev Encodes : Answered → Type 0
  Encodes answer = DoesStep kind (Encode v) g (λ x. with_objects x objects) answer (λ x. with_objects x objects)

  pub encode_unset : (answer : Answered) → UnsetIn cell answer → Encodes answer
  encode_unset answer out x = rw out.stops (unset_stops _ _ (object_unset _ _ _ _ v.0 read out.is_unset))

  pub encode_next : (row : TermRow) (g' : Registers) → SetIn cell row → g' ≡ holding g row → Encodes (Ok g')
  encode_next row g' set e x = rw e (reads _ _ (object_given _ _ _ _ set v.0 read) (next (accumulator_set _ _ _ _ row.0 set.is_row) (same_lengths _)))

pub ruleset encode-ways = (row-ways, encode_unset, encode_next)

module _ (g : Registers) (kinds rows objects : List ℕ) (v : Object) where
  abbrev Decodes : Answered → List ℕ → Type 0
  Decodes answer objects' = DoesStep (kind_in kinds) (Decode v) g (λ x. with_term_rows (with_objects x objects) rows) answer (λ x. with_term_rows (with_objects x objects') rows)

  pub decode_unset : (answer : Answered) → UnsetIn g.accumulator answer → Decodes answer objects
  decode_unset answer out x = rw out.stops (unset_stops _ _ (accumulator_unset _ _ _ _ out.is_unset))

  module _ (kind : ℕ) (wanted : kind ≡ kind_in kinds v.0) (row : TermRow) (set_row : SetIn g.accumulator row) where
    pub decode_not : (answer : Answered) (reason : Reason) → TestsOver rows (is kind row.0) (Err reason) → answer ≡ Err (Stuck reason) → Decodes answer objects
    decode_not answer reason tests e x = rw (e, ← wanted) (reads _ _ (accumulator_given _ _ _ set_row) (stops _ _ (tested_not _ _ _ _ tests refl)))

    pub decode_next : (objects' : List ℕ) → TestsOver rows (is kind row.0) (Ok tt) → v.0 < length objects → objects' ≡ set objects v.0 row.0 → Decodes (Ok g) objects'
    decode_next objects' tests inside e x =
        rw (e, ← wanted) (reads _ _ (accumulator_given _ _ _ set_row)
        (gets _ _ (tested_holds _ _ _ _ tests refl) (next (object_set _ _ _ _ _ set_row.is_row v.0 inside) (objects_lengths _ v.0 _))))

pub ruleset decode-ways = (row-ways, decode_unset, decode_not, decode_next)

module _ (g : Registers) (messages : List ℕ) (r : Raw) (kind : ℕ → ℕ) where
  abbrev Matches : Answered → Type 0
  Matches answer = DoesStep kind (Match r) g (λ x. with_messages x messages) answer (λ x. with_messages x messages)

  pub match_unset : (answer : Answered) → UnsetIn g.accumulator answer → Matches answer
  match_unset answer out x = rw out.stops (unset_stops _ _ (accumulator_unset _ _ _ _ out.is_unset))

  module _ (row : TermRow) (set_row : SetIn g.accumulator row) (cell : TermRow) (read : cell.0 ≡ get_or messages r.0 unset) where
    pub match_cell_unset : (answer : Answered) → UnsetIn cell answer → Matches answer
    match_cell_unset answer out x = rw out.stops (reads _ _ (accumulator_given _ _ _ set_row) (unset_stops _ _ (message_unset _ _ _ _ r.0 read out.is_unset)))

    module _ (other : TermRow) (set_other : SetIn cell other) where
      pub match_not : (answer : Answered) (reason : Reason) → Tests (same row.0 other.0) (Err reason) → answer ≡ Err (Stuck reason) → Matches answer
      match_not answer reason tests e x =
          let memory = (state_at g (with_messages x messages)).stores.memory in
          rw e (reads _ _ (accumulator_given _ _ _ set_row) (reads _ _ (message_given _ _ _ _ set_other r.0 read) (stops _ _ (tests_not tests memory refl))))

      pub match_next : Tests (same row.0 other.0) (Ok tt) → Matches (Ok g)
      match_next tests x =
          let memory = (state_at g (with_messages x messages)).stores.memory in
          reads _ _ (accumulator_given _ _ _ set_row)
          (reads _ _ (message_given _ _ _ _ set_other r.0 read) (gets _ _ (tests_holds tests memory refl) (next refl (same_lengths _))))

pub ruleset match-ways = (row-ways, match_unset, match_cell_unset, match_not, match_next)
