-- The forms with no part, a way out at a time.
use Prim.Native.Nat.{ℕ, ◌<◌}
use mathlib.Core.Path.{◌≡◌, refl, ap, subst, ◌∙◌}
use Rattle.std.specs.Prelude.{Option, Err, Ok}
use mathlib.Core.List.{List, []}
use native.Mathlib.Decide.{ℕ_discrete}
use native.Mathlib.Nat.{le_refl}
use native.Mathlib.Omega.{arith}
use lib.ListN.{length, get_or, set}
use Rattle.answers.specs.declared.Reason.TheVariants.{Unset}
use Rattle.numbers.specs.Kinds.{kind_in}
use Rattle.numbers.specs.Limits.{named_cells}
use Rattle.numbers.specs.declared.Object.{Object}
use Rattle.numbers.specs.declared.Raw.{Raw}
use Rattle.numbers.specs.declared.TermRow.{TermRow}
use Rattle.patterns.specs.Pattern.{Pattern, object, raw, constant, opposite, key_of, signature, hash}
use Rattle.patterns.specs.Row.{pattern_fields}
use Rattle.patterns.specs.Tree.{key_by}
use Rattle.patterns.proofs.RowLaws.{raw_below}
use Rattle.stores.specs.Cells.{unset, held}
use Rattle.theory.specs.Outcome.{Outcome, done, bind}
use Rattle.theory.specs.World as World
use Rattle.theory.specs.RowModel.{row_world}
use Rattle.theory.specs.Machine.{Stores}
use Rattle.theory.specs.Rules.{made, decodes, equals, match_object, match_raw}
use Rattle.world.specs.Operations.{MakesWord}
use Rattle.machine.specs.Machine.{Slices, slices, with_objects, with_messages, with_term_rows, with_certificates, Within}
use Rattle.machine.proofs.AskLaws.{makes}
use Rattle.machine.proofs.AgreeLaws.{messages_lengths}
use Rattle.machine.proofs.StateLaws.{held_unset, held_set, object_unset, object_row}
use Rattle.walks.specs.Walks.{Walked, meeting, stores_at, Comes, goes, sticks, fills, stores_alone, message_and_stores, WalksBy, keeps}
use Rattle.walks.specs.declared.Walk.{Walk}
use Rattle.walks.specs.declared.Ended.TheVariants.{Stuck}
use Rattle.walks.proofs.ComesLaws.{kept_same, reads, frees, answers_as, unset_sticks, set_sticks, comes_as}
use Rattle.walks.proofs.StoreLaws.{named_unset, named_row, stores_any, stores_named}
use Rattle.leaf_matching.specs.Stages.{WalksInside, GoesOnBy, Inside, asked, opposed, keyed, verifies}
use Rattle.leaf_matching.specs.Matched.{meets}
use Rattle.leaf_matching.proofs.StageLaws.{comes_onward, comes_kept}
use Rattle.leaf_matching.proofs.RuleLaws.{decodes_then, compared_stages, kept_stages, opposed_then, verified_stages}

-- the slices of a function that sees objects and rows
abbrev over : List ℕ → List ℕ → Slices → Slices
over objects rows x = with_term_rows (with_objects x objects) rows

-- the walk goes on where what came into hand is the message
abbrev ComparesTo : ℕ → ℕ → Walked → Walked → Type 0
ComparesTo row message came answer = (kind : ℕ → ℕ) → GoesOnBy stores_alone (λ m. equals row_world kind row m.0 message m.1) came (λ x. x) answer (λ x. x)

-- the message is seen no more
forgets : {used : ℕ} {before after : Slices} {o : Outcome (ℕ × Stores row_world)} {answer : Walked}
    → Comes message_and_stores used before o answer after → Comes stores_alone used before (bind o (λ r. done r.1)) answer after
forgets (goes e on kept) = goes (ap (λ r. r.1) e) on kept
forgets (sticks e kept) = sticks e kept
forgets (fills kept) = fills kept

-- v
module _ (w : Walk) (kinds rows objects : List ℕ) (row : ℕ) (v : Object) (known : TermRow) (read : known.0 ≡ get_or objects v.0 unset) where
  abbrev MatchesObject : Walked → List ℕ → Type 0
  MatchesObject answer objects' = WalksBy stores_alone (meets (kind_in kinds) (object row v.0) w) w (λ x. over objects rows x) answer (λ x. over objects' rows x)

  by_variable : (x : Slices) {o : Option ℕ} → (stores_at w (over objects rows x)).σ v.0 ≡ o
      → meets (kind_in kinds) (object row v.0) w (stores_at w (over objects rows x)) ≡ match_object row_world (kind_in kinds) row v.0 o (held w.message.0) (stores_at w
      (over objects rows x))
  by_variable x e = ap (λ (o : Option ℕ). match_object row_world (kind_in kinds) row v.0 o (held w.message.0) (stores_at w (over objects rows x))) e

  pub object_decodes : known.0 ≡ unset → {answer : Walked} {objects' : List ℕ}
      → WalksBy message_and_stores (λ n. decodes row_world (kind_in kinds) row v.0 (held w.message.0) n (made row_world (kind_in kinds))) w
      (λ x. over objects rows x) answer (λ x. over objects' rows x)
      → MatchesObject answer objects'
  object_decodes e decoded x =
      comes_as (by_variable x (object_unset _ _ _ _ v.0 read e) ∙ decodes_then (kind_in kinds) row v.0 (held w.message.0) (stores_at w (over objects rows x)) (λ _ n. done n))
      (forgets (decoded x))

  module _ (is_row : known.0 ≡ unset → ⊥) where
    pub object_no_message : w.message.0 ≡ unset → MatchesObject (Err (Stuck row Unset)) objects
    object_no_message e x = comes_as (by_variable x (object_row _ _ _ _ v.0 read is_row)) (unset_sticks row _ (held_unset _ e))

    pub object_same : (w.message.0 ≡ unset → ⊥) → Within rows w.used → (w' : Walk) → w' ≡ meeting w known → {answer : Walked} → ComparesTo row w.message.0 (Ok w') answer
        → MatchesObject answer objects
    object_same is_message within w' met same x =
        let n = stores_at w (over objects rows x) in
        let start : Comes message_and_stores w.used (over objects rows x) (done (known.0, n)) (Ok w') (over objects rows x) =
        rw met (goes (ap (message_and_stores known.0) (stores_any _ _ _ _ _)) (record { message = is_row; more = le_refl w.used; inside = within.used_rows_lem }) kept_same) in
        comes_as (by_variable x (object_row _ _ _ _ v.0 read is_row))
        (reads row _ (held_set _ is_message) ((same (kind_in kinds)).walks (over objects rows x) (over objects rows x) w.used (done (known.0, n)) start))

pub ruleset object-ways = (object_decodes, object_no_message, object_same)

-- r
module _ (w : Walk) (named : List ℕ) (row : ℕ) (r : Raw) (below : r.0 < named_cells) (known : TermRow) (read : known.0 ≡ get_or named r.0 unset) (kind : ℕ → ℕ) where
  abbrev MatchesRaw : Walked → List ℕ → Type 0
  MatchesRaw answer named' = WalksInside stores_alone (meets kind (raw row r.0) w) w (λ x. with_messages x named) answer (λ x. with_messages x named')

  by_cell : (x : Slices) {o : Option ℕ} → (stores_at w (with_messages x named)).ρ r.0 ≡ o
      → meets kind (raw row r.0) w (stores_at w (with_messages x named)) ≡ match_raw row_world kind row r.0 o (held w.message.0) (stores_at w (with_messages x named))
  by_cell x e = ap (λ (o : Option ℕ). match_raw row_world kind row r.0 o (held w.message.0) (stores_at w (with_messages x named))) e

  pub raw_no_message : w.message.0 ≡ unset → MatchesRaw (Err (Stuck row Unset)) named
  raw_no_message e = record { walks = λ x l. by x (ℕ_discrete known.0 unset) }
    where
      by : (x : Slices) → Dec (known.0 ≡ unset) → Comes stores_alone w.used (with_messages x named) (meets kind (raw row r.0) w (stores_at w (with_messages x named)))
          (Err (Stuck row Unset)) (with_messages x named)
      by x (yes none) =
          comes_as (by_cell x (named_unset _ _ _ _ r.0 below read none)) (frees row _ (named_unset _ _ _ _ r.0 below read none) (unset_sticks row _ (held_unset _ e)))
      by x (no is_row) = comes_as (by_cell x (named_row _ _ _ _ r.0 below read is_row)) (unset_sticks row _ (held_unset _ e))

  module _ (is_message : w.message.0 ≡ unset → ⊥) where
    pub raw_stored : known.0 ≡ unset → r.0 < length named → {named' : List ℕ} → named' ≡ set named r.0 w.message.0 → MatchesRaw (Ok w) named'
    raw_stored none inside put =
        rw put (record {
          walks = λ x l. comes_as (by_cell x (named_unset _ _ _ _ r.0 below read none))
              (frees row _ (named_unset _ _ _ _ r.0 below read none)
              (reads row _ (held_set _ is_message)
              (goes (stores_named _ _ _ _ _ w.message.0 is_message r.0 below inside)
              (record { message = is_message; more = le_refl w.used; inside = l })
              (record { lengths = messages_lengths (with_messages x named) r.0 w.message.0; rows = refl }))));
        })

    pub raw_same : (known.0 ≡ unset → ⊥) → {answer : Walked} → ComparesTo row known.0 (Ok w) answer → MatchesRaw answer named
    raw_same is_row same =
        record {
          walks = λ x l. comes_as (by_cell x (named_row _ _ _ _ r.0 below read is_row))
              (reads row _ (held_set _ is_message)
              ((same kind).walks (with_messages x named) (with_messages x named) w.used (done (w.message.0, stores_at w (with_messages x named)))
              (goes refl (record { message = is_message; more = le_refl w.used; inside = l }) kept_same)));
        }

pub ruleset raw-ways = (raw_no_message, raw_stored, raw_same)

-- c : C
module _ (w : Walk) (rows objects : List ℕ) (row : ℕ) (c : Object) (byte : ℕ) (kind : ℕ → ℕ) where
  abbrev MatchesConstant : Walked → List ℕ → List ℕ → Type 0
  MatchesConstant answer objects' rows' = WalksBy stores_alone (meets kind (constant row c.0 byte) w) w (λ x. over objects rows x) answer (λ x. over objects' rows' x)

  pub constant_no_message : w.message.0 ≡ unset → MatchesConstant (Err (Stuck row Unset)) objects rows
  constant_no_message e x = unset_sticks row _ (held_unset _ e)

  module _ (is_message : w.message.0 ≡ unset → ⊥) (known : ℕ) (read : known ≡ get_or objects c.0 unset) where
    pub constant_set : (known ≡ unset → ⊥) → MatchesConstant (Err (Stuck row Unset)) objects rows
    constant_set is_row x = reads row _ (held_set _ is_message) (set_sticks row _ (object_row _ _ _ _ c.0 read is_row))

    pub constant_same : known ≡ unset → {word : ℕ} {kept answer : Walked} {objects' rows' : List ℕ} → MakesWord (World.byte byte) word
        → WalksBy message_and_stores (keeps row c.0 word) w (λ x. over objects rows x) kept (λ x. over objects' rows' x) → ComparesTo row w.message.0 kept answer
        → MatchesConstant answer objects' rows'
    constant_same none {word} {objects' = objects'} {rows' = rows'} says walked same x =
        reads row _ (held_set _ is_message)
        (frees row _ (object_unset _ _ _ _ c.0 read none)
        (answers_as row _ (makes _ _ _ _ says)
        (comes_as (kept_stages kind row c.0 word w.message.0 (stores_at w (over objects rows x)))
        ((same kind).walks (over objects' rows' x) (over objects rows x) w.used _ (walked x)))))

pub ruleset constant-ways = (constant_no_message, constant_set, constant_same)

-- k : op(K)
module _ (w : Walk) (rows objects : List ℕ) (row : ℕ) (public private : Object) (kind : ℕ → ℕ) where
  abbrev MatchesOpposite : Walked → List ℕ → List ℕ → Type 0
  MatchesOpposite answer objects' rows' = WalksBy stores_alone (meets kind (opposite row public.0 private.0) w) w (λ x. over objects rows x) answer (λ x. over objects' rows' x)

  pub opposite_no_message : w.message.0 ≡ unset → MatchesOpposite (Err (Stuck row Unset)) objects rows
  opposite_no_message e x = unset_sticks row _ (held_unset _ e)

  pub opposite_same : (w.message.0 ≡ unset → ⊥) → {kept answer : Walked} {objects' rows' : List ℕ}
      → ((kind : ℕ → ℕ) → WalksBy message_and_stores (opposed kind row public.0 private.0) w (λ x. over objects rows x) kept (λ x. over objects' rows' x))
      → ComparesTo row w.message.0 kept answer → MatchesOpposite answer objects' rows'
  opposite_same is_message {objects' = objects'} {rows' = rows'} walked same x =
      reads row _ (held_set _ is_message)
      (comes_as (opposed_then kind row public.0 private.0 (stores_at w (over objects rows x)) (λ o n. equals row_world kind row o w.message.0 n))
      ((same kind).walks (over objects' rows' x) (over objects rows x) w.used _ (walked kind x)))

pub ruleset opposite-ways = (opposite_no_message, opposite_same)

-- what a decoded message goes on with
module _ (w : Walk) (kind : ℕ → ℕ) (rows objects : List ℕ) (row v : ℕ) {came : Walked} {objects' : List ℕ}
    (decoded : WalksBy message_and_stores (λ n. decodes row_world kind row v (held w.message.0) n (made row_world kind)) w
    (λ x. over objects rows x) came (λ x. over objects' rows x)) where
  pub decoded_inside : Within rows w.used → Inside rows came
  decoded_inside within = record {
    within = λ w' e. record {
      used_rows_lem = (comes_onward (subst (λ (c : Walked). Comes message_and_stores w.used (over objects rows (slices [] [] [] []))
          (decodes row_world kind row v (held w.message.0) (stores_at w (over objects rows (slices [] [] [] []))) (made row_world kind)) c
          (over objects' rows (slices [] [] [] []))) e (decoded (slices [] [] [] [])))).inside;
      few_rows = within.few_rows;
    };
  }

  pub decoded_low : {i : ℕ} → i < length objects → i < length objects'
  decoded_low l = omega (arith, (comes_kept (decoded (slices [] [] [] []))).lengths.objects_length, l)

  -- k : keyOf(a)
  pub key_of_same : (agent : Object) (certificates : List ℕ) {found answer : Walked}
      → GoesOnBy message_and_stores (λ m. asked row (λ n. n.σ agent.0) (λ a. World.key_of a) m.1) came
      (λ x. with_certificates (with_objects x objects') certificates) found (λ x. with_certificates (with_objects x objects') certificates)
      → ComparesTo row w.message.0 found answer
      → WalksBy stores_alone (meets kind (key_of row v agent.0) w) w
      (λ x. with_certificates (over objects rows x) certificates) answer (λ x. with_certificates (over objects' rows x) certificates)
  key_of_same agent certificates looked same x =
      let before = with_certificates (over objects rows x) certificates in
      comes_as (compared_stages kind row v (λ n. n.σ agent.0) (λ a. World.key_of a) w.message.0 (stores_at w before))
      ((same kind).walks (with_certificates (over objects' rows x) certificates) before w.used _
      (looked.walks (with_term_rows x rows) before w.used _ (decoded (with_certificates x certificates))))

  -- h : H(r)
  pub hash_same : (r : Raw) (named : List ℕ) {rows' : List ℕ} {found answer : Walked}
      → GoesOnBy message_and_stores (λ m. asked row (λ n. n.ρ r.0) (λ b. World.hash b) m.1) came
      (λ x. with_term_rows (with_messages x named) rows) found (λ x. with_term_rows (with_messages x named) rows')
      → ComparesTo row w.message.0 found answer
      → WalksBy stores_alone (meets kind (hash row v r.0) w) w
      (λ x. with_term_rows (with_messages (with_objects x objects) named) rows) answer (λ x. with_term_rows (with_messages (with_objects x objects') named) rows')
  hash_same r named {rows'} hashed same x =
      let before = with_term_rows (with_messages (with_objects x objects) named) rows in
      comes_as (compared_stages kind row v (λ n. n.ρ r.0) (λ b. World.hash b) w.message.0 (stores_at w before))
      ((same kind).walks (with_term_rows (with_messages (with_objects x objects') named) rows') before w.used _
      (hashed.walks (with_objects x objects') before w.used _ (decoded (with_messages x named))))

  -- s : S(key, r)
  pub signature_verified : (word : ℕ) → v ≡ (pattern_fields word).v → (r : Raw) → r.0 ≡ (pattern_fields word).r → (named certificates : List ℕ) {objects'' rows' : List ℕ} {found answer : Walked}
      → GoesOnBy message_and_stores (λ m. keyed kind row (key_by (pattern_fields word)) m.1) came
      (λ x. with_certificates (over objects' rows x) certificates) found (λ x. with_certificates (over objects'' rows' x) certificates)
      → GoesOnBy stores_alone (verifies row r.0 w.message.0) found
      (λ x. with_term_rows (with_messages x named) rows') answer (λ x. with_term_rows (with_messages x named) rows')
      → WalksBy stores_alone (meets kind (signature row (pattern_fields word).v (key_by (pattern_fields word)) (pattern_fields word).r) w) w
      (λ x. with_certificates (with_term_rows (with_messages (with_objects x objects) named) rows) certificates) answer
      (λ x. with_certificates (with_term_rows (with_messages (with_objects x objects'') named) rows') certificates)
  signature_verified word variable r body named certificates {objects''} {rows'} signs verifies x =
      let before = with_certificates (with_term_rows (with_messages (with_objects x objects) named) rows) certificates in
      let is : signature row (pattern_fields word).v (key_by (pattern_fields word)) (pattern_fields word).r ≡ signature row v (key_by (pattern_fields word)) r.0 = rw (variable, body) in
      comes_as (ap (λ (p : Pattern). meets kind p w (stores_at w before)) is
      ∙ verified_stages kind row v (key_by (pattern_fields word)) r.0 w.message.0 (stores_at w before))
      (verifies.walks (with_certificates (with_objects x objects'') certificates) before w.used _
      (signs.walks (with_messages x named) before w.used _ (decoded (with_certificates (with_messages x named) certificates))))

-- r is one of the named cells
pub raw_low : (word : ℕ) (r : Raw) → r.0 ≡ (pattern_fields word).r → r.0 < 64
raw_low word r e = rw e (raw_below word)
