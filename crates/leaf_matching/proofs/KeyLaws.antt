-- The key of a matched signature, a way out at a time.
use Rattle.std.specs.Prelude.{Err, Ok}
use Prim.Native.Nat.{ℕ, ◌<◌}
use mathlib.Core.Path.{◌≡◌, sym, ap, ◌∙◌}
use mathlib.Core.List.{List}
use native.Mathlib.Nat.{le_refl}
use native.Mathlib.Omega.{arith}
use lib.ListN.{get_or}
use Rattle.answers.specs.declared.Reason.TheVariants.{Unset}
use Rattle.numbers.specs.declared.Object.{Object}
use Rattle.numbers.specs.declared.TermRow.{TermRow}
use Rattle.patterns.specs.Pattern.{Key, plain_key, op_key, certified_key}
use Rattle.patterns.specs.Row.{pattern_fields}
use Rattle.patterns.specs.Tree.{key_by}
use Rattle.stores.specs.Cells.{unset}
use Rattle.theory.specs.World.{op}
use Rattle.theory.specs.RowModel.{row_world}
use Rattle.theory.specs.Rules.{makes, made, create_key}
use Rattle.machine.specs.Machine.{Slices, with_objects, with_term_rows, with_certificates}
use Rattle.machine.proofs.StateLaws.{object_unset, object_row}
use Rattle.walks.specs.Walks.{Walked, meeting, stores_at, goes, message_and_stores, WalksBy}
use Rattle.walks.specs.declared.Walk.{Walk}
use Rattle.walks.specs.declared.Ended.TheVariants.{Stuck}
use Rattle.walks.proofs.ComesLaws.{kept_same, reads, unset_sticks, comes_as}
use Rattle.walks.proofs.StoreLaws.{stores_any}
use Rattle.leaf_matching.specs.Stages.{WalksInside, GoesOnBy, opposed, keyed}
use Rattle.leaf_matching.proofs.StageLaws.{stage_next}

-- a key that a variable holds
module _ (objects : List ℕ) (w : Walk) (row : ℕ) (key : Object) (known : TermRow) (read : known.0 ≡ get_or objects key.0 unset) (kind : ℕ → ℕ) where
  abbrev Holds : Walked → Type 0
  Holds answer = WalksInside message_and_stores (keyed kind row (plain_key key.0)) w (λ x. with_objects x objects) answer (λ x. with_objects x objects)

  pub held_key_unset : known.0 ≡ unset → Holds (Err (Stuck row Unset))
  held_key_unset e = record { walks = λ x l. unset_sticks row _ (object_unset _ _ _ _ key.0 read e) }

  pub held_key_row : (known.0 ≡ unset → ⊥) → (w' : Walk) → w' ≡ meeting w known → Holds (Ok w')
  held_key_row is_row w' met =
      rw met (record {
        walks = λ x l. reads row _ (object_row _ _ _ _ key.0 read is_row)
            (goes (ap (message_and_stores known.0) (stores_any _ _ _ _ _)) (record { message = is_row; more = le_refl w.used; inside = l }) kept_same);
      })

-- k : op(K)
module _ (rows objects : List ℕ) (w : Walk) (row : ℕ) (public private : Object) (key : TermRow) (read : key.0 ≡ get_or objects private.0 unset) (kind : ℕ → ℕ) where
  abbrev Opposes : Walked → List ℕ → List ℕ → Type 0
  Opposes answer objects' rows' =
      WalksBy message_and_stores (opposed kind row public.0 private.0) w
      (λ x. with_term_rows (with_objects x objects) rows) answer (λ x. with_term_rows (with_objects x objects') rows')

  pub opposed_unset : key.0 ≡ unset → Opposes (Err (Stuck row Unset)) objects rows
  opposed_unset e x = unset_sticks row _ (object_unset _ _ _ _ private.0 read e)

  pub opposed_made : (key.0 ≡ unset → ⊥) → {answer : Walked} {objects' rows' : List ℕ}
      → ((kind : ℕ → ℕ) → WalksBy message_and_stores (λ n. makes row_world kind row public.0 (op key.0) n (made row_world kind)) w
      (λ x. with_term_rows (with_objects x objects) rows) answer (λ x. with_term_rows (with_objects x objects') rows'))
      → Opposes answer objects' rows'
  opposed_made is_row made x = reads row _ (object_row _ _ _ _ private.0 read is_row) (made kind x)

pub ruleset opposed-ways = (opposed_unset, opposed_made)

-- the key of s : S(key, r)
module _ {came : Walked} (kind : ℕ → ℕ) (certificates rows objects : List ℕ) (row word : ℕ) (few : (pattern_fields word).f < 3) (w : Walk) (next : came ≡ Ok w) (key second : Object)
    (first : key.0 ≡ (pattern_fields word).x) (other : second.0 ≡ (pattern_fields word).y) (form : ℕ) (by : form ≡ (pattern_fields word).f) where
  abbrev over : List ℕ → List ℕ → Slices → Slices
  over objects' rows' x = with_certificates (with_term_rows (with_objects x objects') rows') certificates

  abbrev Signs : Walked → List ℕ → List ℕ → Type 0
  Signs answer objects' rows' =
      GoesOnBy message_and_stores (λ m. keyed kind row (key_by (pattern_fields word)) m.1) came (λ x. over objects rows x) answer (λ x. over objects' rows' x)

  pub signing_held : form ≡ 0 → {answer : Walked}
      → ((kind : ℕ → ℕ) → WalksInside message_and_stores (keyed kind row (plain_key key.0)) w (λ x. with_objects x objects) answer (λ x. with_objects x objects))
      → Signs answer objects rows
  signing_held h held =
      let is : key_by (pattern_fields word) ≡ plain_key key.0 = rw (sym by ∙ h, first) in
      stage_next w next (λ x on. comes_as (ap (λ (k : Key). keyed kind row k (stores_at w (over objects rows x))) is) ((held kind).walks (with_certificates
      (with_term_rows x rows) certificates) on.inside))

  pub signing_opposite : form ≡ 1 → {answer : Walked} {objects' rows' : List ℕ}
      → ((kind : ℕ → ℕ) → WalksBy message_and_stores (opposed kind row key.0 second.0) w
      (λ x. with_term_rows (with_objects x objects) rows) answer (λ x. with_term_rows (with_objects x objects') rows'))
      → Signs answer objects' rows'
  signing_opposite h opposes =
      let is : key_by (pattern_fields word) ≡ op_key key.0 second.0 = rw (sym by ∙ h, first, other) in
      stage_next w next (λ x on. comes_as (ap (λ (k : Key). keyed kind row k (stores_at w (over objects rows x))) is) (opposes kind (with_certificates x certificates)))

  pub signing_certified : (form ≡ 0 → ⊥) → (form ≡ 1 → ⊥) → {answer : Walked} {objects' : List ℕ}
      → WalksBy message_and_stores (create_key row_world kind row (certified_key key.0 second.0)) w (λ x. over objects rows x) answer (λ x. over objects' rows x)
      → Signs answer objects' rows
  signing_certified n₀ n₁ certifies =
      let two : (pattern_fields word).f ≡ 2 = omega (arith, few, n₀, n₁, by) in
      let is : key_by (pattern_fields word) ≡ certified_key key.0 second.0 = rw (two, first, other) in
      stage_next w next (λ x on. comes_as (ap (λ (k : Key). keyed kind row k (stores_at w (over objects rows x))) is) (certifies x))
