-- A value made, and one made and decoded, a way out at a time.
use Prim.Native.Nat.{ℕ}
use mathlib.Core.Path.{◌≡◌, sym, ap}
use Rattle.std.specs.Prelude.{Option, Some, Err, Ok}
use Rattle.std.specs.Result.{IsErrAnd}
use mathlib.Core.List.{List, []}
use lib.ListN.{get_or}
use Rattle.answers.specs.declared.Reason.TheVariants.{Unset}
use Rattle.numbers.specs.Kinds.{kind_in}
use Rattle.numbers.specs.declared.Object.{Object}
use Rattle.stores.specs.Cells.{unset, held}
use Rattle.theory.specs.Outcome.{Outcome, bind, at}
use Rattle.theory.specs.World.{Op}
use Rattle.theory.specs.RowModel.{row_world}
use Rattle.theory.specs.Machine.{Stores, set_memory}
use Rattle.theory.specs.Rules.{makes, made, decodes}
use Rattle.world.specs.Operations.{finding, MakesWord}
use Rattle.machine.specs.Machine.{Slices, slices, with_objects, with_term_rows, Within}
use Rattle.machine.proofs.AskLaws as Ask
use Rattle.machine.proofs.StateLaws.{held_set, object_unset, object_row}
use Rattle.walks.specs.Walks.{Walked, stores_at, Comes, message_and_stores, WalksBy, founds, keeps}
use Rattle.walks.specs.declared.Walk.{Walk}
use Rattle.walks.specs.declared.Ended.{Ended}
use Rattle.walks.specs.declared.Ended.TheVariants.{Stuck}
use Rattle.walks.proofs.ComesLaws.{frees, answers_as, set_sticks, comes_as}
use Rattle.walk_values.specs.Values.{seals}
use Rattle.walk_values.proofs.ThenLaws.{done_then, next_message, next_within, after_ended, after_next}

-- the slices of a function that sees objects and rows
abbrev over : List ℕ → List ℕ → Slices → Slices
over objects rows x = with_term_rows (with_objects x objects) rows

module _ (w : Walk) (rows objects : List ℕ) (row : ℕ) (v : Object) (word known : ℕ) (read : known ≡ get_or objects v.0 unset) where
  abbrev Makes : Walked → List ℕ → List ℕ → Type 0
  Makes answer objects' rows' =
      (kind : ℕ → ℕ) (o : Op ℕ) → MakesWord o word
      → WalksBy message_and_stores (λ n. makes row_world kind row v.0 o n (made row_world kind)) w (λ x. over objects rows x) answer (λ x. over objects' rows' x)

  pub make_value_set : (known ≡ unset → ⊥) → Makes (Err (Stuck row Unset)) objects rows
  make_value_set is_row kind o says x = set_sticks row _ (object_row _ _ _ _ v.0 read is_row)

  pub make_value_kept : known ≡ unset → {answer : Walked} {objects' rows' : List ℕ}
      → WalksBy message_and_stores (keeps row v.0 word) w (λ x. over objects rows x) answer (λ x. over objects' rows' x) → Makes answer objects' rows'
  make_value_kept none kept kind o says x = frees row _ (object_unset _ _ _ _ v.0 read none) (answers_as row _ (Ask.makes _ _ _ _ says) (kept x))

pub ruleset make-value-ways = (make_value_set, make_value_kept)

-- after the first rule, of a function that sees rows alone
pub founds_within : (w : Walk) (rows rows' : List ℕ) (row word : ℕ) {found : Walked} {next : Walk}
    → WalksBy message_and_stores (founds row word) w (λ x. with_term_rows x rows) found (λ x. with_term_rows x rows') → found ≡ Ok next → Within rows w.used → Within rows' next.used
founds_within w rows rows' row word first e within = next_within (first (slices [] [] [] [])) e within

module _ (w : Walk) (kinds rows objects : List ℕ) (row : ℕ) (v : Object) (word : ℕ) (found : Walked) (rows' : List ℕ)
    (made-first : WalksBy message_and_stores (founds row word) w (λ x. with_term_rows x rows) found (λ x. with_term_rows x rows')) where
  abbrev decoding : Option ℕ → Stores row_world → Outcome (ℕ × Stores row_world)
  decoding m n = decodes row_world (kind_in kinds) row v.0 m n (made row_world (kind_in kinds))

  abbrev Seals : Walked → List ℕ → Type 0
  Seals answer objects' =
      (o : Op ℕ) → MakesWord o word → WalksBy message_and_stores (seals kinds row v.0 o) w (λ x. over objects rows x) answer (λ x. over objects' rows' x)

  module _ (o : Op ℕ) (says : MakesWord o word) (x : Slices) where
    abbrev start : Stores row_world
    start = stores_at w (over objects rows x)

    -- what is found or made, and then decoded
    in_two : {answer : Walked} {after : Slices}
        → Comes message_and_stores w.used (over objects rows x) (bind (founds row word start) (λ p. decoding (Some p.0) p.1)) answer after
        → Comes message_and_stores w.used (over objects rows x) (seals kinds row v.0 o start) answer after
    unfolding seals
    in_two h = answers_as row _ (Ask.makes _ _ _ _ says)
        (comes_as (done_then (at row (finding start.memory word)) (λ r. (r.0, set_memory row_world start r.1)) (λ p. decoding (Some p.0) p.1)) h)

  pub seal_ended : {ended : Ended} {answer : Walked} → found ≡ Err ended → IsErrAnd answer (λ e. e ≡ ended) → Seals answer objects
  seal_ended e raise o says x = in_two o says x (after_ended (made-first (with_objects x objects)) _ e raise)

  pub seal_decoded : (next : Walk) → found ≡ Ok next → {answer : Walked} {objects' : List ℕ}
      → WalksBy message_and_stores (λ n. decoding (held next.message.0) n) next (λ x. over objects rows' x) answer (λ x. over objects' rows' x) → Seals answer objects'
  seal_decoded next e decoded o says x =
      in_two o says x (after_next (made-first (with_objects x objects)) _ e
      (comes_as (ap (λ (m : Option ℕ). decoding m (stores_at next (over objects rows' x))) (sym (held_set next.message.0 (next_message (made-first (with_objects x objects)) e)))) (decoded x)))
