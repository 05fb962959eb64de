-- A variable read or created, and a key of each form, a way out at a time.
use Prim.Native.Nat.{ℕ, ◌<◌}
use mathlib.Core.Path.{◌≡◌, refl, sym, ap, ◌∙◌}
use mathlib.Core.Bool.{Bool, true, false, not}
use Rattle.std.specs.Prelude.{Option, None, Some, Err, Ok}
use Rattle.std.specs.Result.{IsErrAnd}
use mathlib.Core.List.{List, []}
use native.Mathlib.Nat.{le_refl}
use native.Mathlib.Decide.{dec_lt}
use native.Mathlib.Omega.{arith}
use borrow.Author.Tests.{ne_eqb, not-true, not-false}
use lib.ListN.{length, get_or}
use Rattle.answers.specs.declared.Reason.TheVariants.{Unset}
use Rattle.numbers.specs.Kinds.{kind_in}
use Rattle.numbers.specs.declared.Object.{Object}
use Rattle.numbers.specs.declared.TermRow.{TermRow}
use Rattle.stores.specs.Cells.{unset}
use Rattle.patterns.specs.Pattern.{Key, plain_key, op_key, certified_key}
use Rattle.patterns.specs.Row.{pattern_fields}
use Rattle.patterns.specs.Tree.{key_by}
use Rattle.theory.specs.World.{op, creatable}
use Rattle.layout.proofs.KindLaws.{creatable_is}
use Rattle.theory.specs.RowModel.{row_world}
use Rattle.theory.specs.Machine.{Stores}
use Rattle.theory.specs.Rules.{makes, made, get_variable, create_key}
use Rattle.world.specs.Operations.{NamesAt}
use Rattle.calls.specs.Run.{state_over}
use Rattle.machine.specs.Machine.{Slices, slices, with_objects, with_term_rows, with_certificates, Within}
use Rattle.machine.proofs.AskLaws.{named_none}
use Rattle.machine.proofs.StateLaws.{object_unset, object_row}
use Rattle.walks.specs.Walks.{Walked, meeting, stores_at, Comes, goes, sticks, message_and_stores, WalksBy, keeps}
use Rattle.walks.specs.declared.Walk.{Walk}
use Rattle.walks.specs.declared.Ended.{Ended}
use Rattle.walks.specs.declared.Ended.TheVariants.{Stuck, NoRoom}
use Rattle.walks.proofs.ComesLaws.{kept_same, full_fills, comes_as}
use Rattle.walks.proofs.StoreLaws.{stores_any}
use Rattle.walk_values.specs.Values.{key_rule, names}
use Rattle.walk_values.proofs.ThenLaws.{next_kept, next_within, after_ended, after_next}

pub creatable_small : (kind : ℕ) (b : Bool) → b ≡ creatable kind → not b ≡ false → kind < 16
creatable_small kind b says e = go (dec_lt kind 16)
  where
    go : Dec (kind < 16) → kind < 16
    go (yes less) = less
    go (no more) =
        let other : creatable kind ≡ false = sym (creatable_is kind) ∙ rw (ne_eqb kind 2 (λ q. omega arith), ne_eqb kind 5 (λ q. omega arith), ne_eqb kind 6 (λ q. omega arith)) in
        let clash : true ≡ false = sym (not-false b e) ∙ says ∙ other in
        absurd (let z : ◌≡◌ {A = ℕ} 0 1 = cc in omega arith)

-- the slices of a function that sees objects and rows
abbrev over : List ℕ → List ℕ → Slices → Slices
over objects rows x = with_term_rows (with_objects x objects) rows

-- a new name
module _ (w : Walk) (rows objects : List ℕ) (row : ℕ) (v : Object) (kind : ℕ) (says : Option (ℕ × ℕ)) (named : NamesAt kind w.counter says) where
  abbrev Names : Walked → List ℕ → List ℕ → Type 0
  Names answer objects' rows' = WalksBy message_and_stores (names row v.0 kind) w (λ x. over objects rows x) answer (λ x. over objects' rows' x)

  pub name_none : says ≡ None → Names (Err (NoRoom row)) objects rows
  name_none e x = full_fills row _ (named_none _ _ _ _ named e) kept_same

  pub name_kept : (word counter : ℕ) → says ≡ Some (word, counter) → {answer : Walked} {objects' rows' : List ℕ}
      → WalksBy message_and_stores (keeps row v.0 word) (record { message = w.message; used = w.used; counter = counter })
      (λ x. over objects rows x) answer (λ x. over objects' rows' x) → Names answer objects' rows'
  unfolding state_over
  name_kept word counter e kept x = rw (named.says (record { rows = rows; used = w.used; counter = w.counter; certificates = x.certificates }) refl, e) (kept x)

pub ruleset name-ways = (name_none, name_kept)

-- a variable
module _ {used : ℕ} {before after : Slices} {answer : Walked} (kind : ℕ → ℕ) (row v : ℕ) (n : Stores row_world) where
  gives_known : {o : Option ℕ} {m : ℕ} → o ≡ Some m
      → Comes message_and_stores used before (made row_world kind m n) answer after → Comes message_and_stores used before (get_variable row_world kind row v o n) answer after
  gives_known e h = rw e h

  gives_created : {o : Option ℕ} → o ≡ None → creatable (kind v) ≡ true
      → Comes message_and_stores used before (names row v (kind v) n) answer after → Comes message_and_stores used before (get_variable row_world kind row v o n) answer after
  gives_created e can h = rw (e, can) h

module _ {used : ℕ} {before : Slices} (kind : ℕ → ℕ) (row v : ℕ) (n : Stores row_world) where
  gives_not : {o : Option ℕ} → o ≡ None → creatable (kind v) ≡ false → Comes message_and_stores used before (get_variable row_world kind row v o n) (Err (Stuck row Unset)) before
  gives_not e cannot = rw (e, cannot) (sticks refl kept_same)

module _ (w : Walk) (kinds rows objects : List ℕ) (row : ℕ) (v : Object) (known : TermRow) (read : known.0 ≡ get_or objects v.0 unset) where
  abbrev Variables : Walked → List ℕ → List ℕ → Type 0
  Variables answer objects' rows' =
      WalksBy message_and_stores (key_rule kinds row (plain_key v.0)) w (λ x. over objects rows x) answer (λ x. over objects' rows' x)

  pub variable_known : (known.0 ≡ unset → ⊥) → Within rows w.used → (w' : Walk) → w' ≡ meeting w known → Variables (Ok w') objects rows
  unfolding key_rule
  variable_known is_row within w' met x =
      rw met (gives_known (kind_in kinds) row v.0 _ (object_row _ _ _ _ v.0 read is_row)
      (goes (ap (message_and_stores known.0) (stores_any w.message.0 known.0 _ _ _))
      (record { message = is_row; more = le_refl w.used; inside = within.used_rows_lem }) kept_same))

  module _ (empty : known.0 ≡ unset) (kind : ℕ) (own : kind ≡ kind_in kinds v.0) (can : Bool) (says : can ≡ creatable kind) where
    pub variable_not : not can ≡ true → Variables (Err (Stuck row Unset)) objects rows
    unfolding key_rule
    variable_not e x = gives_not (kind_in kinds) row v.0 _ (object_unset _ _ _ _ v.0 read empty) (rw (← own) (sym says ∙ not-true can e))

    pub variable_created : not can ≡ false → {answer : Walked} {objects' rows' : List ℕ}
        → WalksBy message_and_stores (names row v.0 kind) w (λ x. over objects rows x) answer (λ x. over objects' rows' x) → Variables answer objects' rows'
    unfolding key_rule
    variable_created e named x =
        gives_created (kind_in kinds) row v.0 _ (object_unset _ _ _ _ v.0 read empty) (rw (← own) (sym says ∙ not-false can e)) (rw own at (named x))

pub ruleset variable-ways = (variable_known, variable_not, variable_created)

-- k : op(K)
module _ (w : Walk) (kinds rows objects : List ℕ) (row : ℕ) (public private : Object) (got : Walked) (rows' objects' : List ℕ)
    (first : WalksBy message_and_stores (key_rule kinds row (plain_key private.0)) w (λ x. over objects rows x) got (λ x. over objects' rows' x)) where
  pub opposite_asks : (next : Walk) → got ≡ Ok next → Within rows w.used × ((public.0 < length objects) × (private.0 < length objects))
      → Within rows' next.used × (public.0 < length objects')
  opposite_asks next e asked =
      let h = first (slices [] [] [] []) in
      (next_within h e asked.0, rw (next_kept h).lengths.objects_length asked.1.0)

  abbrev Opposes : Walked → List ℕ → List ℕ → Type 0
  Opposes answer objects'' rows'' =
      WalksBy message_and_stores (key_rule kinds row (op_key public.0 private.0)) w (λ x. over objects rows x) answer (λ x. over objects'' rows'' x)

  pub opposite_ended : {ended : Ended} {answer : Walked} → got ≡ Err ended → IsErrAnd answer (λ e. e ≡ ended) → Opposes answer objects' rows'
  unfolding key_rule
  opposite_ended e raise x = after_ended (first x) _ e raise

  pub opposite_made : (next : Walk) → got ≡ Ok next → {answer : Walked} {objects'' rows'' : List ℕ}
      → ((kind : ℕ → ℕ) → WalksBy message_and_stores (λ n. makes row_world kind row public.0 (op next.message.0) n (made row_world kind)) next
      (λ x. over objects' rows' x) answer (λ x. over objects'' rows'' x)) → Opposes answer objects'' rows''
  unfolding key_rule
  opposite_made next e opposed x = after_next (first x) _ e (opposed (kind_in kinds) x)

-- a key by its form
abbrev with_all : List ℕ → List ℕ → List ℕ → Slices → Slices
with_all certificates objects rows x = with_certificates (over objects rows x) certificates

module _ (w : Walk) (kinds certificates rows objects : List ℕ) (row word form : ℕ) (read : form ≡ (pattern_fields word).f) (key : Object) (first : key.0 ≡ (pattern_fields word).x) where
  abbrev Keys : Key → Walked → List ℕ → List ℕ → Type 0
  Keys k answer objects' rows' = WalksBy message_and_stores (key_rule kinds row k) w (λ x. with_all certificates objects rows x) answer (λ x. with_all certificates objects' rows' x)

  abbrev Plain : Key → Walked → List ℕ → List ℕ → Type 0
  Plain k answer objects' rows' = WalksBy message_and_stores (key_rule kinds row k) w (λ x. over objects rows x) answer (λ x. over objects' rows' x)

  key_as : {answer : Walked} {rows' objects' : List ℕ} (k : Key) → key_by (pattern_fields word) ≡ k → Keys k answer objects' rows' → Keys (key_by (pattern_fields word)) answer objects' rows'
  key_as k e h x = comes_as (ap (λ (k : Key). key_rule kinds row k (stores_at w (with_all certificates objects rows x))) e) (h x)

  pub key_plain : {answer : Walked} {rows' objects' : List ℕ} → form ≡ 0 → Plain (plain_key key.0) answer objects' rows' → Keys (key_by (pattern_fields word)) answer objects' rows'
  key_plain e h = key_as (plain_key key.0) (rw (sym read ∙ e, first)) (λ x. h (with_certificates x certificates))

  module _ (other : Object) (second : other.0 ≡ (pattern_fields word).y) {answer : Walked} {rows' objects' : List ℕ} where
    pub key_opposite : form ≡ 1 → Plain (op_key key.0 other.0) answer objects' rows' → Keys (key_by (pattern_fields word)) answer objects' rows'
    key_opposite e h = key_as (op_key key.0 other.0) (rw (sym read ∙ e, first, second)) (λ x. h (with_certificates x certificates))

    pub key_certified : (pattern_fields word).f < 3 → (form ≡ 0 → ⊥) → (form ≡ 1 → ⊥)
        → WalksBy message_and_stores (create_key row_world (kind_in kinds) row (certified_key key.0 other.0)) w
        (λ x. with_all certificates objects rows x) answer (λ x. with_all certificates objects' rows' x)
        → Keys (key_by (pattern_fields word)) answer objects' rows'
    unfolding key_rule
    key_certified few n₀ n₁ h =
        let two : (pattern_fields word).f ≡ 2 = omega (arith, n₀, n₁) in
        key_as (certified_key key.0 other.0) (rw (two, first, second)) h
