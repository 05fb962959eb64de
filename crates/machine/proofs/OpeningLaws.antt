-- KEY OF, DECRYPT and VERIFY, a way out at a time.
use Rattle.std.specs.Prelude.{Ok, Err}
use Prim.Native.Nat.{ℕ}
use mathlib.Core.Path.{◌≡◌, refl}
use mathlib.Core.List.{List}
use lib.ListN.{get_or}
use Rattle.answers.specs.declared.Reason.{Reason}
use Rattle.numbers.specs.declared.Object.{Object}
use Rattle.numbers.specs.declared.Raw.{Raw}
use Rattle.numbers.specs.declared.TermRow.{TermRow}
use Rattle.code.specs.declared.Instruction.TheVariants.{KeyOf, Decrypt, Verify}
use Rattle.stores.specs.Cells.{unset}
use Rattle.theory.specs.World.{decrypt, verify}
use Rattle.world.specs.Operations.{OpensOver, CertifiedBy, TestsOver}
use Rattle.machine.specs.Machine.{with_objects, with_messages, with_term_rows, with_certificates, holding, next, DoesStep, Answered}
use Rattle.machine.specs.declared.Registers.{Registers}
use Rattle.machine.specs.declared.Halt.TheVariants.{Stuck}
use Rattle.machine.proofs.StateLaws.{accumulator_unset, object_unset, message_unset, accumulator_made}
use Rattle.machine.proofs.SetLaws.{SetIn, UnsetIn, accumulator_given, object_given, message_given, row-ways}
use Rattle.machine.proofs.AskLaws.{row_number, opened_row, opened_not, certified_row, certified_not, tested_holds, tested_not}
use Rattle.machine.proofs.AgreeLaws.{same_lengths, reads, gets, unset_stops, stops}

module _ (g : Registers) (certificates : List ℕ) (kind : ℕ → ℕ) where
  abbrev KeysOf : Answered → Type 0
  KeysOf answer = DoesStep kind KeyOf g (λ x. with_certificates x certificates) answer (λ x. with_certificates x certificates)

  pub key_of_unset : (answer : Answered) → UnsetIn g.accumulator answer → KeysOf answer
  key_of_unset answer out x = rw out.stops (unset_stops _ _ (accumulator_unset _ _ _ _ out.is_unset))

  module _ (agent : TermRow) (set : SetIn g.accumulator agent) where
    pub key_of_not : (answer : Answered) (reason : Reason) → CertifiedBy certificates agent.0 (Err reason) → answer ≡ Err (Stuck reason) → KeysOf answer
    key_of_not answer reason certified e x = rw e (reads _ _ (accumulator_given _ _ _ set) (stops _ _ (certified_not _ _ _ _ certified refl)))

    pub key_of_next : (key : TermRow) (g' : Registers) → CertifiedBy certificates agent.0 (Ok key) → g' ≡ holding g key → KeysOf (Ok g')
    key_of_next key g' certified p x =
        rw p (reads _ _ (accumulator_given _ _ _ set)
        (gets _ _ (certified_row _ _ _ _ certified refl)
        (next (accumulator_made _ _ _ _ key.0 (row_number (certified.below key refl)) _) (same_lengths _))))

pub ruleset key-of-ways = (row-ways, key_of_unset, key_of_not, key_of_next)

module _ (g : Registers) (rows objects : List ℕ) (v : Object) (kind : ℕ → ℕ) (cell : TermRow) (read : cell.0 ≡ get_or objects v.0 unset) where
  abbrev Decrypts : Answered → Type 0
  Decrypts answer = DoesStep kind (Decrypt v) g (λ x. with_term_rows (with_objects x objects) rows) answer (λ x. with_term_rows (with_objects x objects) rows)

  pub decrypt_key_unset : (answer : Answered) → UnsetIn cell answer → Decrypts answer
  decrypt_key_unset answer out x = rw out.stops (unset_stops _ _ (object_unset _ _ _ _ v.0 read out.is_unset))

  module _ (key : TermRow) (keyed : SetIn cell key) where
    pub decrypt_unset : (answer : Answered) → UnsetIn g.accumulator answer → Decrypts answer
    decrypt_unset answer out x = rw out.stops (reads _ _ (object_given _ _ _ _ keyed v.0 read) (unset_stops _ _ (accumulator_unset _ _ _ _ out.is_unset)))

    module _ (sealed : TermRow) (set : SetIn g.accumulator sealed) where
      pub decrypt_not : (answer : Answered) (reason : Reason) → OpensOver rows (decrypt key.0 sealed.0) (Err reason) → answer ≡ Err (Stuck reason) → Decrypts answer
      decrypt_not answer reason opened e x =
          rw e (reads _ _ (object_given _ _ _ _ keyed v.0 read) (reads _ _ (accumulator_given _ _ _ set) (stops _ _ (opened_not _ _ _ _ opened refl))))

      pub decrypt_next : (body : TermRow) (g' : Registers) → OpensOver rows (decrypt key.0 sealed.0) (Ok body) → g' ≡ holding g body → Decrypts (Ok g')
      decrypt_next body g' opened p x =
          rw p (reads _ _ (object_given _ _ _ _ keyed v.0 read)
          (reads _ _ (accumulator_given _ _ _ set)
          (gets _ _ (opened_row _ _ _ _ opened refl)
          (next (accumulator_made _ _ _ _ body.0 (row_number (opened.below body refl)) _) (same_lengths _)))))

pub ruleset decrypt-ways = (row-ways, decrypt_key_unset, decrypt_unset, decrypt_not, decrypt_next)

module _ (g : Registers) (rows objects messages : List ℕ) (v : Object) (r : Raw) (kind : ℕ → ℕ) (cell : TermRow) (read : cell.0 ≡ get_or objects v.0 unset) where
  abbrev Verifies : Answered → Type 0
  Verifies answer =
      DoesStep kind (Verify v r) g (λ x. with_term_rows (with_messages (with_objects x objects) messages) rows) answer
      (λ x. with_term_rows (with_messages (with_objects x objects) messages) rows)

  pub verify_key_unset : (answer : Answered) → UnsetIn cell answer → Verifies answer
  verify_key_unset answer out x = rw out.stops (unset_stops _ _ (object_unset _ _ _ _ v.0 read out.is_unset))

  module _ (key : TermRow) (keyed : SetIn cell key) (body_cell : TermRow) (read_body : body_cell.0 ≡ get_or messages r.0 unset) where
    pub verify_body_unset : (answer : Answered) → UnsetIn body_cell answer → Verifies answer
    verify_body_unset answer out x = rw out.stops (reads _ _ (object_given _ _ _ _ keyed v.0 read) (unset_stops _ _ (message_unset _ _ _ _ r.0 read_body out.is_unset)))

    module _ (body : TermRow) (bodied : SetIn body_cell body) where
      pub verify_unset : (answer : Answered) → UnsetIn g.accumulator answer → Verifies answer
      verify_unset answer out x =
          rw out.stops (reads _ _ (object_given _ _ _ _ keyed v.0 read)
          (reads _ _ (message_given _ _ _ _ bodied r.0 read_body) (unset_stops _ _ (accumulator_unset _ _ _ _ out.is_unset))))

      module _ (signature : TermRow) (set : SetIn g.accumulator signature) where
        pub verify_not : (answer : Answered) (reason : Reason) → TestsOver rows (verify key.0 body.0 signature.0) (Err reason) → answer ≡ Err (Stuck reason) → Verifies answer
        verify_not answer reason tests e x =
            rw e (reads _ _ (object_given _ _ _ _ keyed v.0 read)
            (reads _ _ (message_given _ _ _ _ bodied r.0 read_body)
            (reads _ _ (accumulator_given _ _ _ set) (stops _ _ (tested_not _ _ _ _ tests refl)))))

        pub verify_next : TestsOver rows (verify key.0 body.0 signature.0) (Ok tt) → Verifies (Ok g)
        verify_next tests x =
            reads _ _ (object_given _ _ _ _ keyed v.0 read)
            (reads _ _ (message_given _ _ _ _ bodied r.0 read_body)
            (reads _ _ (accumulator_given _ _ _ set) (gets _ _ (tested_holds _ _ _ _ tests refl) (next refl (same_lengths _)))))

pub ruleset verify-ways = (row-ways, verify_key_unset, verify_body_unset, verify_unset, verify_not, verify_next)
