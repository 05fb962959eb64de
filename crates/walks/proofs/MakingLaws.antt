-- A term found or made, and a message decoded, a way out at a time.
use Rattle.std.proofs.lemmas.Option.{some_pair_parts}
use Rattle.std.specs.Prelude.{Result, Ok, Err}
use Rattle.std.specs.Prelude.{Some, None}
use Prim.Native.Nat.{ℕ, ◌<◌, ◌≤◌}
use mathlib.Core.Path.{◌≡◌, refl, ap}
use mathlib.Core.List.{List}
use native.Mathlib.Nat.{le_refl}
use native.Mathlib.Omega.{arith}
use lib.ListN.{length, get_or, set, take, length-set}
use lib.Seq.{take-set-le}
use Rattle.answers.specs.declared.Reason.{Reason}
use Rattle.answers.specs.declared.Reason.TheVariants.{Unset}
use Rattle.numbers.specs.Kinds.{kind_in}
use Rattle.numbers.specs.declared.Object.{Object}
use Rattle.numbers.specs.declared.TermRow.{TermRow}
use Rattle.terms.specs.Finder.{Located, located}
use Rattle.terms.specs.Finder.{Found}
use Rattle.terms.proofs.FinderLaws.{located_as}
use Rattle.stores.specs.Cells.{unset, held}
use Rattle.theory.specs.World.{is}
use Rattle.theory.specs.RowModel.{row_world}
use Rattle.theory.specs.Rules.{made, decodes}
use Rattle.world.specs.Operations.{TestsOver}
use Rattle.machine.specs.Machine.{Slices, with_objects, with_term_rows, Within}
use Rattle.machine.proofs.AskLaws.{placed_at, placed_full, tested_holds, tested_not}
use Rattle.machine.proofs.FoundLaws.{Finds, finds, found_length, found_row}
use Rattle.machine.proofs.AgreeLaws.{objects_lengths}
use Rattle.machine.proofs.StateLaws.{held_unset, held_set, object_unset, object_row}
use Rattle.walks.specs.Walks.{Walked, Kept, Onward, goes, message_and_stores, WalksBy, founds, keeps}
use Rattle.walks.specs.declared.Walk.{Walk}
use Rattle.walks.specs.declared.Ended.TheVariants.{Stuck, NoRoom}
use Rattle.walks.proofs.StoreLaws.{stores_made, stores_kept, stores_object}
use Rattle.walks.proofs.ComesLaws.{reads, frees, gets, unset_sticks, set_sticks, not_sticks, full_fills}

-- what the finder keeps: the rows that were used, of which there are as many or one more
record Grows (rows : List ℕ) (used : ℕ) (l : Located) : Type 0 where
  kept : take used l.rows ≡ take used rows
  more : (row : TermRow) (used' : ℕ) → l.found ≡ Some (row, used') → (used ≤ used') × (used' ≤ length rows)

module _ {rows rows' : List ℕ} {used term : ℕ} {found : Found} (answer : Finds rows used term found rows') where
  at_used : {row row' : TermRow} {used₁ used₂ : ℕ} → (used ≤ used₁) × (used₁ ≤ length rows)
      → ◌≡◌ {A = Found} (Some (row, used₁)) (Some (row', used₂)) → (used ≤ used₂) × (used₂ ≤ length rows)
  at_used {row} {row'} {used₁} {used₂} l e = let same : used₁ ≡ used₂ = (some_pair_parts row row' used₁ used₂ e).1 in (omega (arith, l.0), omega (arith, l.1))

  clash : {A : Type 0} {row : TermRow} {used₁ : ℕ} → ◌≡◌ {A = Found} None (Some (row, used₁)) → A
  clash e = let z : ◌≡◌ {A = ℕ} 0 1 = cc in absurd (omega arith)

  grown : Grows rows used (located found rows')
  grown =
      let fits = answer.within.used_rows_lem in
      rw answer.says (located_as rows used term fits (Grows rows used)
      (λ row l e. record { kept = refl; more = λ row' used' q. at_used (omega arith, fits) q })
      (λ absent l. record { kept = take-set-le used rows used term (le_refl used); more = λ row' used' q. at_used (omega arith, omega arith) q })
      (λ absent l. record { kept = refl; more = λ row' used' q. clash q }))

  pub found_kept : (x : Slices) → Kept used (with_term_rows x rows) (with_term_rows x rows')
  found_kept x = record { lengths = record { objects_length = refl; messages_length = refl; rows_length = found_length answer }; rows = grown.kept }

  pub found_onward : {row : TermRow} {used' : ℕ} (w : Walk) (x : Slices) → found ≡ Some (row, used')
      → Onward used (record { message = row; used = used'; counter = w.counter }) (with_term_rows x rows')
  found_onward {row} {used'} w x e = record {
    message = found_row answer e;
    more = (grown.more row used' e).0;
    inside = omega (arith, (grown.more row used' e).1, found_length answer);
  }

module _ (w : Walk) (rows : List ℕ) (row word : ℕ) (rows' : List ℕ) (found : Found) (answer : Finds rows w.used word found rows') where
  pub make_full : found ≡ None → WalksBy message_and_stores (founds row word) w (λ x. with_term_rows x rows) (Err (NoRoom row)) (λ x. with_term_rows x rows')
  make_full e x = full_fills row _ (placed_full _ _ _ _ answer e) (found_kept answer x)

  pub make_next : (message : TermRow) (used : ℕ) → found ≡ Some (message, used)
      → WalksBy message_and_stores (founds row word) w
      (λ x. with_term_rows x rows) (Ok (record { message = message; used = used; counter = w.counter })) (λ x. with_term_rows x rows')
  make_next message used e x = gets row _ (placed_at _ _ _ _ answer e) (goes (ap (message_and_stores message.0) (stores_made _ _ _ _ _ _)) (found_onward answer w x e) (found_kept answer x))

-- the slices of a function that sees objects and rows
abbrev over : List ℕ → List ℕ → Slices → Slices
over objects rows x = with_term_rows (with_objects x objects) rows

module _ (w : Walk) (rows objects : List ℕ) (row : ℕ) (v : Object) (word : ℕ) (rows' : List ℕ) (found : Found) (answer : Finds rows w.used word found rows') where
  pub keep_full : found ≡ None → WalksBy message_and_stores (keeps row v.0 word) w (λ x. over objects rows x) (Err (NoRoom row)) (λ x. over objects rows' x)
  keep_full e x = full_fills row _ (placed_full _ _ _ _ answer e) (found_kept answer (with_objects x objects))

  pub keep_next : (message : TermRow) (used : ℕ) (objects' : List ℕ) → v.0 < length objects → found ≡ Some (message, used) → objects' ≡ set objects v.0 message.0
      → WalksBy message_and_stores (keeps row v.0 word) w (λ x. over objects rows x) (Ok (record { message = message; used = used; counter = w.counter })) (λ x. over objects' rows' x)
  keep_next message used objects' inside e put x =
      rw put (gets row _ (placed_at _ _ _ _ answer e)
      (goes (ap (message_and_stores message.0) (stores_kept _ _ _ _ _ _ message.0 (found_row answer e) v.0 inside)) (found_onward answer w (with_objects x (set objects v.0 message.0)) e)
      (record {
        lengths = record { objects_length = length-set objects v.0 message.0; messages_length = refl; rows_length = found_length answer };
        rows = (found_kept answer x).rows;
      })))

pub ruleset make-ways = (make_full, make_next, finds)

pub ruleset keep-ways = (keep_full, keep_next, finds)

module _ (w : Walk) (kinds rows objects : List ℕ) (row : ℕ) (v : Object) (known : ℕ) (read : known ≡ get_or objects v.0 unset) where
  abbrev Decodes : Walked → List ℕ → Type 0
  Decodes answer objects' =
      WalksBy message_and_stores (λ n. decodes row_world (kind_in kinds) row v.0 (held w.message.0) n (made row_world (kind_in kinds))) w
      (λ x. over objects rows x) answer (λ x. over objects' rows x)

  pub decode_set : (known ≡ unset → ⊥) → Decodes (Err (Stuck row Unset)) objects
  decode_set is_row x = set_sticks row _ (object_row _ _ _ _ v.0 read is_row)

  module _ (none : known ≡ unset) where
    pub decode_unset : w.message.0 ≡ unset → Decodes (Err (Stuck row Unset)) objects
    decode_unset e x = frees row _ (object_unset _ _ _ _ v.0 read none) (unset_sticks row _ (held_unset _ e))

    module _ (kind : ℕ) (answer : Result (Unit {0}) Reason) (is_row : w.message.0 ≡ unset → ⊥) (wanted : kind ≡ kind_in kinds v.0) (tests : TestsOver rows (is kind w.message.0) answer) where
      pub decode_not : (reason : Reason) → answer ≡ Err reason → Decodes (Err (Stuck row reason)) objects
      decode_not reason e x =
          frees row _ (object_unset _ _ _ _ v.0 read none)
          (reads row _ (held_set _ is_row) (rw (← wanted) (not_sticks row _ (tested_not _ _ _ _ tests e))))

      pub decode_next : (objects' : List ℕ) → answer ≡ Ok tt → Within rows w.used → v.0 < length objects → objects' ≡ set objects v.0 w.message.0 → Decodes (Ok w) objects'
      decode_next objects' holds within inside put x =
          rw put (frees row _ (object_unset _ _ _ _ v.0 read none)
          (reads row _ (held_set _ is_row)
          (rw (← wanted) (gets row _ (tested_holds _ _ _ _ tests holds)
          (goes (ap (message_and_stores w.message.0) (stores_object _ _ _ _ _ w.message.0 is_row v.0 inside))
          (record { message = is_row; more = le_refl w.used; inside = within.used_rows_lem })
          (record { lengths = objects_lengths (with_term_rows (with_objects x objects) rows) v.0 w.message.0; rows = refl }))))))

pub ruleset decode-ways = (decode_set, decode_unset, decode_not, decode_next)
