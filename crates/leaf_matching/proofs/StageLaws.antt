-- A walk goes on from what it came to, a way out at a time.
use Rattle.std.specs.Prelude.{Result, Ok, Err}
use Rattle.std.specs.Result.{IsErrAnd}
use Prim.Native.Nat.{ℕ, ◌<◌}
use mathlib.Core.Path.{◌≡◌, refl, ap, subst}
use mathlib.Core.List.{List}
use native.Mathlib.Nat.{le_refl}
use lib.ListN.{get_or}
use Rattle.answers.specs.declared.Reason.{Reason}
use Rattle.answers.specs.declared.Reason.TheVariants.{Unset}
use Rattle.numbers.specs.Limits.{named_cells}
use Rattle.numbers.specs.declared.Object.{Object}
use Rattle.numbers.specs.declared.Raw.{Raw}
use Rattle.numbers.specs.declared.TermRow.{TermRow}
use Rattle.stores.specs.Cells.{unset}
use Rattle.theory.specs.Outcome.{Outcome, bind}
use Rattle.theory.specs.World.{key_of, decrypt, hash, same, verify}
use Rattle.theory.specs.RowModel.{row_world}
use Rattle.theory.specs.Machine.{Stores}
use Rattle.theory.specs.Rules.{equals}
use Rattle.world.specs.Operations.{MakesWord, OpensOver, CertifiedBy, Tests, TestsOver}
use Rattle.machine.specs.Machine.{Slices, with_objects, with_messages, with_term_rows, with_certificates}
use Rattle.machine.proofs.AskLaws.{row_number, tests_holds, tests_not, makes, opened_row, opened_not, certified_row, certified_not, tested_holds, tested_not}
use Rattle.machine.proofs.StateLaws.{object_unset, object_row}
use Rattle.walks.specs.Walks.{Walked, meeting, stores_at, Kept, Onward, Comes, goes, sticks, fills, stores_alone, message_and_stores, WalksBy, founds}
use Rattle.walks.specs.declared.Walk.{Walk}
use Rattle.walks.specs.declared.Ended.{Ended}
use Rattle.walks.specs.declared.Ended.TheVariants.{Stuck}
use Rattle.walks.proofs.ComesLaws.{kept_same, reads, gets, answers_as, unset_sticks, not_sticks, then_goes}
use Rattle.walks.proofs.AskedLaws.{passes}
use Rattle.walks.proofs.StoreLaws.{named_unset, named_row, stores_made}
use Rattle.leaf_matching.specs.Stages.{GoesOnBy, asked, verifies}

-- what a walk that goes on has, and what any walk keeps
pub comes_onward : {A : Type 0} {seen : ℕ → Stores row_world → A} {used : ℕ} {before after : Slices} {o : Outcome A} {w : Walk} → Comes seen used before o (Ok w) after → Onward
    w.used w after
comes_onward {w = w} (goes e on kept) = record { message = on.message; more = le_refl w.used; inside = on.inside }

pub comes_kept : {A : Type 0} {seen : ℕ → Stores row_world → A} {used : ℕ} {before after : Slices} {o : Outcome A} {answer : Walked} → Comes seen used before o answer after
    → Kept used before after
comes_kept (goes e on kept) = kept
comes_kept (sticks e kept) = kept
comes_kept (fills kept) = kept

-- a walk that has ended, and one that goes on
module _ {B : Type 0} {later : ℕ → Stores row_world → B} {rule : ℕ × Stores row_world → Outcome B} {came : Walked} {mid : Slices → Slices} where
  pub stage_ended : {ended : Ended} {answer : Walked} → came ≡ Err ended → IsErrAnd answer (λ e. e ≡ ended) → GoesOnBy later rule came mid answer mid
  stage_ended e raise = record { walks = λ x before used o h. passes rule e raise h }

  pub stage_next : (w : Walk) → came ≡ Ok w → {answer : Walked} {after : Slices → Slices}
      → ((x : Slices) → Onward w.used w (mid x) → Comes later w.used (mid x) (rule (w.message.0, stores_at w (mid x))) answer (after x))
      → GoesOnBy later rule came mid answer after
  stage_next w e {answer} {after} go = record { walks = walks }
    where
      walks : (x before : Slices) (used : ℕ) (o : Outcome (ℕ × Stores row_world)) → Comes message_and_stores used before o came (mid x) → Comes later used before (bind o rule) answer (after x)
      walks x before used o h =
          let here : Comes message_and_stores used before o (Ok w) (mid x) = subst (λ (c : Walked). Comes message_and_stores used before o c (mid x)) e h in
          then_goes rule here (go x (comes_onward here))

-- what came into hand is the message
module _ {came : Walked} (row : ℕ) (message : TermRow) (kind : ℕ → ℕ) (w : Walk) (next : came ≡ Ok w) {tested : Result (Unit {0}) Reason} (tests : Tests (same w.message.0 message.0) tested) where
  abbrev Compares : Walked → Type 0
  Compares answer = GoesOnBy stores_alone (λ m. equals row_world kind row m.0 message.0 m.1) came (λ x. x) answer (λ x. x)

  pub same_not : (reason : Reason) → tested ≡ Err reason → Compares (Err (Stuck row reason))
  same_not reason e = stage_next w next (λ x on. not_sticks row _ (tests_not tests (stores_at w x).memory e))

  pub same_holds : tested ≡ Ok tt → Compares (Ok w)
  same_holds e = stage_next w next (λ x on. gets row _ (tests_holds tests (stores_at w x).memory e) (goes refl on kept_same))

-- a signature is verified
module _ {came : Walked} (rows named : List ℕ) (row : ℕ) (r : Raw) (below : r.0 < named_cells) (signature : TermRow) (w : Walk) (next : came ≡ Ok w)
    (body : ℕ) (read : body ≡ get_or named r.0 unset) where
  abbrev Verifies : Walked → Type 0
  Verifies answer =
      GoesOnBy stores_alone (verifies row r.0 signature.0) came (λ x. with_term_rows (with_messages x named) rows) answer (λ x. with_term_rows (with_messages x named) rows)

  pub verify_unset : body ≡ unset → Verifies (Err (Stuck row Unset))
  verify_unset e = stage_next w next (λ x on. unset_sticks row _ (named_unset _ _ _ _ r.0 below read e))

  module _ (is_row : body ≡ unset → ⊥) {tested : Result (Unit {0}) Reason} (tests : TestsOver rows (verify w.message.0 body signature.0) tested) where
    pub verify_not : (reason : Reason) → tested ≡ Err reason → Verifies (Err (Stuck row reason))
    verify_not reason e =
        stage_next w next (λ x on. reads row _ (named_row _ _ _ _ r.0 below read is_row) (not_sticks row _ (tested_not _ _ _ _ tests e)))

    pub verify_holds : tested ≡ Ok tt → Verifies (Ok w)
    verify_holds e =
        stage_next w next (λ x on. reads row _ (named_row _ _ _ _ r.0 below read is_row) (gets row _ (tested_holds _ _ _ _ tests e) (goes refl on kept_same)))

-- a walk that meets another row
met_onward : {w : Walk} {after : Slices} (row : TermRow) → (row.0 ≡ unset → ⊥) → Onward w.used w after → Onward w.used (meeting w row) after
met_onward {w} row is_row on = record { message = is_row; more = le_refl w.used; inside = on.inside }

-- the key of an agent
module _ {came : Walked} (certificates objects : List ℕ) (row : ℕ) (agent : Object) (w : Walk) (next : came ≡ Ok w) (whose : ℕ) (read : whose ≡ get_or objects agent.0 unset) where
  abbrev over : Slices → Slices
  over x = with_certificates (with_objects x objects) certificates

  abbrev Certifies : Walked → Type 0
  Certifies answer = GoesOnBy message_and_stores (λ m. asked row (λ n. n.σ agent.0) (λ a. key_of a) m.1) came (λ x. over x) answer (λ x. over x)

  pub agent_unset : whose ≡ unset → Certifies (Err (Stuck row Unset))
  agent_unset e = stage_next w next (λ x on. unset_sticks row _ (object_unset _ _ _ _ agent.0 read e))

  module _ (is_row : whose ≡ unset → ⊥) {says : Result TermRow Reason} (certified : CertifiedBy certificates whose says) where
    pub agent_not : (reason : Reason) → says ≡ Err reason → Certifies (Err (Stuck row reason))
    agent_not reason e =
        stage_next w next (λ x on. reads row _ (object_row _ _ _ _ agent.0 read is_row) (not_sticks row _ (certified_not _ _ _ _ certified e)))

    pub agent_row : (key : TermRow) (w' : Walk) → says ≡ Ok key → w' ≡ meeting w key → Certifies (Ok w')
    agent_row key w' e met =
        rw met (stage_next w next (λ x on. reads row _ (object_row _ _ _ _ agent.0 read is_row)
        (gets row _ (certified_row _ _ _ _ certified e)
        (goes (ap (message_and_stores key.0) (stores_made _ _ _ _ _ _)) (met_onward key (row_number (certified.below key e)) on) kept_same))))

-- the body of an encryption
module _ {came : Walked} (rows objects : List ℕ) (row : ℕ) (key : Object) (w : Walk) (next : came ≡ Ok w) (known : ℕ) (read : known ≡ get_or objects key.0 unset) where
  abbrev Opens : Walked → Type 0
  Opens answer =
      GoesOnBy message_and_stores (λ m. asked row (λ n. n.σ key.0) (λ k. decrypt k m.0) m.1) came
      (λ x. with_term_rows (with_objects x objects) rows) answer (λ x. with_term_rows (with_objects x objects) rows)

  pub open_unset : known ≡ unset → Opens (Err (Stuck row Unset))
  open_unset e = stage_next w next (λ x on. unset_sticks row _ (object_unset _ _ _ _ key.0 read e))

  module _ (is_row : known ≡ unset → ⊥) {says : Result TermRow Reason} (opened : OpensOver rows (decrypt known w.message.0) says) where
    pub open_not : (reason : Reason) → says ≡ Err reason → Opens (Err (Stuck row reason))
    open_not reason e =
        stage_next w next (λ x on. reads row _ (object_row _ _ _ _ key.0 read is_row) (not_sticks row _ (opened_not _ _ _ _ opened e)))

    pub open_row : (body : TermRow) (w' : Walk) → says ≡ Ok body → w' ≡ meeting w body → Opens (Ok w')
    open_row body w' e met =
        rw met (stage_next w next (λ x on. reads row _ (object_row _ _ _ _ key.0 read is_row)
        (gets row _ (opened_row _ _ _ _ opened e)
        (goes (ap (message_and_stores body.0) (stores_made _ _ _ _ _ _)) (met_onward body (row_number (opened.below body e)) on) kept_same))))

-- the hash of a raw variable
module _ {came : Walked} (rows named : List ℕ) (row : ℕ) (r : Raw) (below : r.0 < named_cells) (w : Walk) (next : came ≡ Ok w) (body : ℕ) (read : body ≡ get_or named r.0 unset) where
  abbrev Hashes : Walked → List ℕ → Type 0
  Hashes answer rows' =
      GoesOnBy message_and_stores (λ m. asked row (λ n. n.ρ r.0) (λ b. hash b) m.1) came
      (λ x. with_term_rows (with_messages x named) rows) answer (λ x. with_term_rows (with_messages x named) rows')

  pub hash_unset : body ≡ unset → Hashes (Err (Stuck row Unset)) rows
  hash_unset e = stage_next w next (λ x on. unset_sticks row _ (named_unset _ _ _ _ r.0 below read e))

  pub hash_made : (body ≡ unset → ⊥) → {word : ℕ} {answer : Walked} {rows' : List ℕ} → MakesWord (hash body) word
      → WalksBy message_and_stores (founds row word) w (λ x. with_term_rows x rows) answer (λ x. with_term_rows x rows') → Hashes answer rows'
  hash_made is_row word walked =
      stage_next w next (λ x on. reads row _ (named_row _ _ _ _ r.0 below read is_row) (answers_as row _ (makes _ _ _ _ word) (walked (with_messages x named))))
