-- Keys made of another key or of an agent, a way out at a time.
use Rattle.std.specs.Prelude.{Result, Ok, Err}
use Prim.Native.Nat.{ℕ}
use mathlib.Core.Path.{◌≡◌, sym, ap, ◌∙◌}
use Rattle.std.specs.Prelude.{Option, Some}
use mathlib.Core.List.{List}
use lib.ListN.{get_or}
use Rattle.answers.specs.declared.Reason.{Reason}
use Rattle.answers.specs.declared.Reason.TheVariants.{Unset}
use Rattle.numbers.specs.Kinds.{kind_in}
use Rattle.numbers.specs.declared.Object.{Object}
use Rattle.numbers.specs.declared.TermRow.{TermRow}
use Rattle.stores.specs.Cells.{unset, held}
use Rattle.patterns.specs.Pattern.{certified_key}
use Rattle.theory.specs.World.{op}
use Rattle.theory.specs.RowModel.{Table, row_world}
use Rattle.theory.specs.Machine.{Stores, set_memory}
use Rattle.theory.specs.Rules.{makes, made, decodes, create_key}
use Rattle.world.specs.Operations.{MakesOver, CertifiedBy}
use Rattle.machine.specs.Machine.{Slices, with_objects, with_term_rows, with_certificates}
use Rattle.machine.proofs.AskLaws.{row_number, made_word, made_not, certified_row, certified_not}
use Rattle.machine.proofs.StateLaws.{held_set, object_unset, object_row}
use Rattle.walks.specs.Walks.{Walked, meeting, stores_at, message_and_stores, WalksBy, keeps}
use Rattle.walks.specs.declared.Walk.{Walk}
use Rattle.walks.specs.declared.Ended.TheVariants.{Stuck}
use Rattle.walks.proofs.StoreLaws.{stores_made}
use Rattle.walks.proofs.ComesLaws.{reads, frees, gets, answers_as, unset_sticks, set_sticks, not_sticks, comes_as}

-- k : op(K)
module _ (w : Walk) (rows objects : List ℕ) (row : ℕ) (public : Object) (private : TermRow) (known : ℕ) (read : known ≡ get_or objects public.0 unset) (kind : ℕ → ℕ) where
  abbrev Opposes : Walked → List ℕ → List ℕ → Type 0
  Opposes answer objects' rows' =
      WalksBy message_and_stores (λ n. makes row_world kind row public.0 (op private.0) n (made row_world kind)) w
      (λ x. with_term_rows (with_objects x objects) rows) answer (λ x. with_term_rows (with_objects x objects') rows')

  pub opposite_set : (known ≡ unset → ⊥) → Opposes (Err (Stuck row Unset)) objects rows
  opposite_set is_row x = set_sticks row _ (object_row _ _ _ _ public.0 read is_row)

  module _ (none : known ≡ unset) (says : Result ℕ Reason) (makes : MakesOver rows (op private.0) says) where
    pub opposite_not : (reason : Reason) → says ≡ Err reason → Opposes (Err (Stuck row reason)) objects rows
    opposite_not reason e x = frees row _ (object_unset _ _ _ _ public.0 read none) (not_sticks row _ (made_not _ _ _ _ makes e))

    pub opposite_kept : (word : ℕ) → says ≡ Ok word → {answer : Walked} {objects' rows' : List ℕ}
        → WalksBy message_and_stores (keeps row public.0 word) w (λ x. with_term_rows (with_objects x objects) rows) answer (λ x. with_term_rows (with_objects x objects') rows')
        → Opposes answer objects' rows'
    opposite_kept word e kept x =
        frees row _ (object_unset _ _ _ _ public.0 read none) (answers_as row _ (made_word _ _ _ _ makes e) (kept x))

pub ruleset opposite-ways = (opposite_set, opposite_not, opposite_kept)

-- k : keyOf(a)
module _ (w : Walk) (kinds certificates rows objects : List ℕ) (row : ℕ) (key agent : Object) (whose : ℕ) (read : whose ≡ get_or objects agent.0 unset) where
  abbrev over : List ℕ → Slices → Slices
  over objects' x = with_certificates (with_term_rows (with_objects x objects') rows) certificates

  abbrev Certifies : Walked → List ℕ → Type 0
  Certifies answer objects' =
      WalksBy message_and_stores (create_key row_world (kind_in kinds) row (certified_key key.0 agent.0)) w (λ x. over objects x) answer (λ x. over objects' x)

  pub certified_unset : whose ≡ unset → Certifies (Err (Stuck row Unset)) objects
  certified_unset e x = unset_sticks row _ (object_unset _ _ _ _ agent.0 read e)

  module _ (is_row : whose ≡ unset → ⊥) (says : Result TermRow Reason) (certified : CertifiedBy certificates whose says) where
    pub certified_none : (reason : Reason) → says ≡ Err reason → Certifies (Err (Stuck row reason)) objects
    certified_none reason e x = reads row _ (object_row _ _ _ _ agent.0 read is_row) (not_sticks row _ (certified_not _ _ _ _ certified e))

    pub certified_decoded : (found : TermRow) (w' : Walk) → says ≡ Ok found → w' ≡ meeting w found → {answer : Walked} {objects' : List ℕ}
        → WalksBy message_and_stores (λ n. decodes row_world (kind_in kinds) row key.0 (held w'.message.0) n (made row_world (kind_in kinds))) w'
        (λ x. with_term_rows (with_objects x objects) rows) answer (λ x. with_term_rows (with_objects x objects') rows)
        → Certifies answer objects'
    certified_decoded found w' e met decoded x =
        let table : Table = record { rows = rows; used = w.used; counter = w.counter; certificates = certificates } in
        let n : Stores row_world = set_memory row_world (stores_at w (over objects x)) table in
        let same : n ≡ stores_at (meeting w found) (over objects x) = sym (stores_made w.message.0 found.0 objects x.messages table table) in
        let row_held : Some found.0 ≡ held found.0 = sym (held_set found.0 (row_number (certified.below found e))) in
        reads row _ (object_row _ _ _ _ agent.0 read is_row)
        (gets row _ (certified_row _ _ _ _ certified e)
        (comes_as
        (ap (λ (o : Option ℕ). decodes row_world (kind_in kinds) row key.0 o n (made row_world (kind_in kinds))) row_held
        ∙ ap (λ (n : Stores row_world). decodes row_world (kind_in kinds) row key.0 (held found.0) n (made row_world (kind_in kinds))) same)
        (rw met at (decoded (with_certificates x certificates)))))

pub ruleset certified-ways = (certified_unset, certified_none, certified_decoded)
