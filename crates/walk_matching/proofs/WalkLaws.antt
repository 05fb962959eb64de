-- Rows with children, a way out at a time.
use Rattle.std.specs.Prelude.{Result, Ok, Err}
use Rattle.std.specs.Result.{IsErrAnd}
use Prim.Native.Nat.{ℕ, zero, suc, ◌+◌, ◌<◌, ◌≤◌}
use mathlib.Core.Path.{◌≡◌, refl, sym, ap, subst, ◌∙◌}
use Rattle.std.specs.Prelude.{Option, Some}
use mathlib.Core.List.{List}
use native.Mathlib.Nat.{le_refl}
use native.Mathlib.Numerals.{add-one}
use native.Mathlib.Omega.{arith}
use lib.ListN.{length, get_or, take, drop}
use lib.Seq.{drop-cons, drop-length, get_or-take, get_or-drop, length-take-le}
use Rattle.answers.specs.declared.Reason.{Reason}
use Rattle.answers.specs.declared.Reason.TheVariants.{Unset}
use Rattle.numbers.specs.Limits.{most_parts}
use Rattle.numbers.specs.declared.Object.{Object}
use Rattle.numbers.specs.declared.Raw.{Raw}
use Rattle.numbers.specs.declared.TermRow.{TermRow}
use Rattle.word.specs.Fields.{split, at}
use Rattle.patterns.specs.Pattern.{Pattern, plain_key, op_key, certified_key, encryption, tuple, let_in, Parts, end, part, count}
use Rattle.patterns.specs.Row.{pattern_fields, children_of}
use Rattle.patterns.specs.Standing.{pattern_in, Stands, StandsAt}
use Rattle.patterns.specs.Tree.{parts_by}
use Rattle.patterns.proofs.RowLaws.{children_count, raw_below}
use Rattle.patterns.proofs.TreeLaws.{parts_count}
use Rattle.patterns.proofs.StandingLaws.{slot, good_row, slot_low, encryption_key, encryption_row, tuple_row, let_row}
use Rattle.stores.specs.Cells.{unset, held}
use Rattle.terms.specs.Shape.{parts_of}
use Rattle.terms.specs.Row.{term_widths, shape_of}
use Rattle.terms.proofs.FieldLaws.{slot_below}
use Rattle.terms.proofs.ShapeLaws.{parts_at}
use Rattle.theory.specs.Outcome.{Outcome, bind}
use Rattle.theory.specs.Outcome as Outcome
use Rattle.theory.specs.World.{decrypt}
use Rattle.theory.specs.RowModel.{Table, row_world}
use Rattle.theory.specs.Machine.{Stores}
use Rattle.theory.specs.Rules.{made, decodes, match, match_parts}
use Rattle.world.specs.Operations.{PartsOver}
use Rattle.machine.specs.Machine.{Slices, slices, with_objects, with_term_rows, Within}
use Rattle.machine.proofs.AskLaws.{parted_tuple, parted_not}
use Rattle.machine.proofs.StateLaws.{inside, held_set}
use Rattle.walks.specs.Walks.{Walked, meeting, stores_at, Kept, Onward, Comes, goes, sticks, stores_alone, message_and_stores, WalksBy}
use Rattle.walks.specs.declared.Walk.{Walk}
use Rattle.walks.specs.declared.Ended.{Ended}
use Rattle.walks.specs.declared.Ended.TheVariants.{Stuck}
use Rattle.walks.proofs.ComesLaws.{kept_same, kept_then, comes_after, reads, frees, gets, unset_sticks, set_sticks, not_sticks, then_goes, comes_as}
use Rattle.walks.proofs.AskedLaws.{passes}
use Rattle.walks.proofs.StoreLaws.{named_unset, named_row, stores_any}
use Rattle.leaf_matching.specs.Stages.{asked}
use Rattle.leaf_matching.specs.Matched.{meets, WalkMatches}
use Rattle.leaf_matching.proofs.StageLaws.{comes_onward, comes_kept}
use Rattle.leaf_matching.proofs.RuleLaws.{decodes_held, opened_stages}

-- an answer that is told
told : {A : Type 0} {seen : ℕ → Stores row_world → A} {used : ℕ} {before after : Slices} {o : Outcome A} {came answer : Walked} → came ≡ answer → Comes seen used before o came after
    → Comes seen used before o answer after
told {seen = seen} {used} {before} {after} {o} e h = subst (λ (c : Walked). Comes seen used before o c after) e h

-- a walk that goes on has a message, and its rows are within the table
module _ {A : Type 0} {seen : ℕ → Stores row_world → A} {used : ℕ} {before after : Slices} {o : Outcome A} {came : Walked} (h : Comes seen used before o came after) (w : Walk)
    (next : came ≡ Ok w) where
  pub in_hand : w.message.0 ≡ unset → ⊥
  in_hand = (comes_onward (told next h)).message

  pub within_next : Within before.rows used → Within after.rows w.used
  within_next within =
      record { used_rows_lem = (comes_onward (told next h)).inside; few_rows = omega (arith, (comes_kept h).lengths.rows_length, within.few_rows) }

pub within_met : {rows : List ℕ} {message : TermRow} {used counter : ℕ} {w : Walk} → w ≡ record { message = message; used = used; counter = counter } → Within rows used → Within rows w.used
within_met met within = rw met within

module _ (patterns : List ℕ) (kind : ℕ → ℕ) (row : ℕ) (w : Walk) where
  as_pattern : {before after : Slices} {answer : Walked} (p : Pattern) → pattern_in patterns row ≡ p → Comes stores_alone w.used before (meets kind p w (stores_at w before)) answer after
      → WalkMatches patterns kind row w before answer after
  as_pattern {before} p e h = comes_as (ap (λ (p : Pattern). meets kind p w (stores_at w before)) e) h

  -- a pattern against a message that is in hand
  with_message : {before after : Slices} {answer : Walked} → (w.message.0 ≡ unset → ⊥) → WalkMatches patterns kind row w before answer after
      → Comes stores_alone w.used before (match row_world kind (pattern_in patterns row) (Some w.message.0) (stores_at w before)) answer after
  with_message {before} is_row h = comes_as (ap (λ (o : Option ℕ). match row_world kind (pattern_in patterns row) o (stores_at w before)) (sym (held_set _ is_row))) h

-- a pattern against a message that comes into hand
met_message : (patterns : List ℕ) (kind : ℕ → ℕ) (row : ℕ) (w : Walk) {w' : Walk} {before after : Slices} {answer : Walked} (message : TermRow) → (message.0 ≡ unset → ⊥)
    → w' ≡ meeting w message
    → WalkMatches patterns kind row w' before answer after
    → Comes stores_alone w.used before (match row_world kind (pattern_in patterns row) (Some message.0) (stores_at w before)) answer after
met_message patterns kind row w {before = before} {after} {answer} message is_row met h =
    let here : WalkMatches patterns kind row (meeting w message) before answer after = rw met at h in
    comes_as (ap (λ (n : Stores row_world). match row_world kind (pattern_in patterns row) (Some message.0) n) (stores_any message.0 w.message.0 _ _ _))
    (with_message patterns kind row (meeting w message) is_row here)

-- the children of a tuple's row, each below it
pub record PartsStand (patterns : List ℕ) (row : ℕ) (children : List ℕ) : Type 0 where
  pub stands : Stands patterns row
  pub few : length children ≤ most_parts
  pub below : (i : ℕ) → i < length children → get_or children i 0 < row

-- and against the parts of a tuple's word
abbrev pub PartsOf : List ℕ → ℕ → (ℕ → ℕ) → Type 0
PartsOf children parts g = (i : ℕ) → i < length children → g i ≡ at (3 + i) (split term_widths parts)

abbrev pub WalkMatchesParts : List ℕ → (ℕ → ℕ) → List ℕ → ℕ → Walk → Slices → Walked → Slices → Type 0
WalkMatchesParts patterns kind children parts w before answer after =
    (g : ℕ → ℕ) → PartsOf children parts g
    → Comes stores_alone w.used before (match_parts row_world kind (parts_by (pattern_in patterns) children) 0 g (stores_at w before)) answer after

-- what a walk that goes on came to
onward : {A : Type 0} {seen : ℕ → Stores row_world → A} {used : ℕ} {before after : Slices} {o : Outcome A} {w : Walk} → Comes seen used before o (Ok w) after → Onward used w after
onward (goes e on kept) = on

done_as : {A : Type 0} {seen : ℕ → Stores row_world → A} {used : ℕ} {before after : Slices} {o : Outcome A} {w : Walk} → Comes seen used before o (Ok w) after
    → o ≡ Outcome.done (seen w.message.0 (stores_at w after))
done_as (goes e on kept) = ap Outcome.done (sym e)

-- e : E(key, p)
module _ (patterns : List ℕ) (kind : ℕ → ℕ) (certificates rows objects named : List ℕ) (row word : ℕ) (w : Walk) (asks : StandsAt patterns row word) (five : (pattern_fields word).tag ≡ 5)
    (form : ℕ) (read : form ≡ (pattern_fields word).f) where
  abbrev sealed : Slices
  sealed = slices objects named rows certificates

  -- only a plain key opens
  pub encryption_wrong : (form ≡ 0 → ⊥) → WalkMatches patterns kind row w sealed (Err (Stuck row Unset)) sealed
  encryption_wrong other = by (pattern_fields word).f refl
    where
      by : (f : ℕ) → (pattern_fields word).f ≡ f → WalkMatches patterns kind row w sealed (Err (Stuck row Unset)) sealed
      by zero h = absurd (other (read ∙ h))
      by (suc zero) h =
          as_pattern patterns kind row w (encryption row (pattern_fields word).v (op_key (pattern_fields word).x (pattern_fields word).y) (pattern_in patterns (get_or
          (pattern_fields word).slots 0 0)))
          (encryption_row asks _ refl five ∙ rw h) (sticks refl kept_same)
      by (suc (suc zero)) h =
          as_pattern patterns kind row w (encryption row (pattern_fields word).v (certified_key (pattern_fields word).x (pattern_fields word).y) (pattern_in patterns (get_or
          (pattern_fields word).slots 0 0)))
          (encryption_row asks _ refl five ∙ rw h) (sticks refl kept_same)
      by (suc (suc (suc f))) h = absurd (omega (arith, encryption_key asks five))

  module _ (plain : form ≡ 0) (e key : Object) (variable : e.0 ≡ (pattern_fields word).v) (opens : key.0 ≡ (pattern_fields word).x) {came : Walked} {objects' : List ℕ}
      (opened : WalksBy message_and_stores (λ n. bind (decodes row_world kind row e.0 (held w.message.0) n (made row_world kind))
      (λ m. asked row (λ n. n.σ key.0) (λ k. decrypt k m.0) m.1)) w (λ x. with_term_rows (with_objects x objects) rows) came (λ x. with_term_rows (with_objects x objects') rows)) where
    abbrev opening : Slices
    opening = slices objects' named rows certificates

    encryption_is : {answer : Walked} {after : Slices} (child : ℕ) → child ≡ get_or (pattern_fields word).slots 0 0
        → Comes stores_alone w.used sealed (bind (bind (decodes row_world kind row e.0 (held w.message.0) (stores_at w sealed) (made row_world kind))
        (λ m. asked row (λ n. n.σ key.0) (λ k. decrypt k m.0) m.1)) (λ q. match row_world kind (pattern_in patterns child) (Some q.0) q.1)) answer after
        → WalkMatches patterns kind row w sealed answer after
    encryption_is child first h =
        as_pattern patterns kind row w (encryption row e.0 (plain_key key.0) (pattern_in patterns child)) (encryption_row asks child first five ∙ rw (variable, opens, sym read ∙ plain))
        (comes_as (opened_stages kind row e.0 key.0 (held w.message.0) (stores_at w sealed) (λ m n. match row_world kind (pattern_in patterns child) (Some m) n)) h)

    pub encryption_ended : {ended : Ended} {answer : Walked} → came ≡ Err ended → IsErrAnd answer (λ e. e ≡ ended) → WalkMatches patterns kind row w sealed answer opening
    encryption_ended h raise = encryption_is _ refl (passes _ h raise (opened sealed))

    module _ (w' : Walk) (next : came ≡ Ok w') where
      pub encryption_within : Within sealed.rows w.used → Within opening.rows w'.used
      encryption_within within = within_next (opened sealed) w' next within

      pub encryption_done : (children : List ℕ) → children ≡ (pattern_fields word).slots → {answer : Walked} {after : Slices} → WalkMatches patterns kind
          (get_or children 0 0) w' opening answer after
          → WalkMatches patterns kind row w sealed answer after
      encryption_done children slots h =
          encryption_is (get_or children 0 0) (slot children word 0 slots)
          (then_goes _ (told next (opened sealed)) (with_message patterns kind (get_or children 0 0) w' (in_hand (opened sealed) w' next) h))

-- a part of a row is a field of its word, and a row's number
part_set : (word i : ℕ) → at (3 + i) (split term_widths word) ≡ unset → ⊥
part_set word i e =
    let same : get_or (drop 3 (split term_widths word)) i 0 ≡ unset = get_or-drop 3 (split term_widths word) i 0 ∙ e in
    omega (arith, slot_below word i)

-- a row has four slots
four_slots : (word : ℕ) → length (pattern_fields word).slots ≡ 4
unfolding pattern_fields
four_slots word = refl

-- the children of a tuple
module _ {patterns : List ℕ} {row word : ℕ} (asks : StandsAt patterns row word) (eight : (pattern_fields word).tag ≡ 8) (n : ℕ) (counted : n ≡ (pattern_fields word).n) where
  few_parts : n ≤ 4
  few_parts = omega (arith, ((good_row asks).tuple eight).0)

  module _ (children : List ℕ) (slots : children ≡ (pattern_fields word).slots) where
    pub tuple_few : n ≤ length children
    tuple_few = rw (slots, four_slots word) few_parts

    tuple_long : length (take n children) ≡ n
    tuple_long = length-take-le n children tuple_few

    pub tuple_parts : PartsStand patterns row (take n children)
    tuple_parts = record {
      stands = asks.stands;
      few = omega (arith, tuple_long, few_parts);
      below = λ i l.
          let less : i < n = omega (arith, tuple_long, l) in
          rw (get_or-take n children i 0 less, slot children word i slots) (slot_low asks n i (sym counted) less few_parts);
    }

-- t : [p1 .. pn]
module _ (patterns : List ℕ) (kind : ℕ → ℕ) (certificates rows objects named : List ℕ) (row word : ℕ) (w : Walk) (asks : StandsAt patterns row word) (eight : (pattern_fields word).tag ≡ 8)
    (t : Object) (variable : t.0 ≡ (pattern_fields word).v) {came : Walked} {objects' : List ℕ}
    (decoded : WalksBy message_and_stores (λ n. decodes row_world kind row t.0 (held w.message.0) n (made row_world kind)) w
    (λ x. with_term_rows (with_objects x objects) rows) came (λ x. with_term_rows (with_objects x objects') rows)) where
  abbrev whole : Slices
  whole = slices objects named rows certificates

  abbrev taken_apart : Slices
  taken_apart = slices objects' named rows certificates

  abbrev inner : Parts
  inner = parts_by (pattern_in patterns) (children_of word)

  tuple_is : {answer : Walked} {after : Slices}
      → Comes stores_alone w.used whole (bind (decodes row_world kind row t.0 (held w.message.0) (stores_at w whole) (made row_world kind))
      (λ d. bind (Outcome.at row (row_world.parts w.message.0 (count inner) d.1.memory)) λ g. match_parts row_world kind inner zero g d.1)) answer after
      → WalkMatches patterns kind row w whole answer after
  tuple_is h =
      as_pattern patterns kind row w (tuple row t.0 inner) (tuple_row asks eight ∙ rw variable)
      (comes_as (decodes_held kind row t.0 w.message.0 (stores_at w whole)
      (λ m n. bind (Outcome.at row (row_world.parts m (count inner) n.memory)) λ g. match_parts row_world kind inner zero g n)) h)

  pub tuple_ended : {ended : Ended} {answer : Walked} → came ≡ Err ended → IsErrAnd answer (λ e. e ≡ ended) → WalkMatches patterns kind row w whole answer taken_apart
  tuple_ended h raise = tuple_is (passes _ h raise (decoded whole))

  module _ (w' : Walk) (next : came ≡ Ok w') where
    pub tuple_within : Within whole.rows w.used → Within taken_apart.rows w'.used
    tuple_within within = within_next (decoded whole) w' next within

    pub tuple_in_hand : w'.message.0 ≡ unset → ⊥
    tuple_in_hand = in_hand (decoded whole) w' next

    module _ (n : ℕ) (counted : n ≡ (pattern_fields word).n) where
      count_is : count inner ≡ n
      count_is = parts_count (pattern_in patterns) (children_of word) ∙ children_count word ∙ omega (arith, few_parts asks eight n counted)

      module _ (children : List ℕ) (slots : children ≡ (pattern_fields word).slots) where
        long : length (take n children) ≡ n
        long = tuple_long asks eight n counted children slots

        module _ {parted : Result ℕ Reason} (parts : PartsOver rows w.message.0 n parted) where
          abbrev memory : Table
          memory = (stores_at w' taken_apart).memory

          pub tuple_not : (reason : Reason) → parted ≡ Err reason → WalkMatches patterns kind row w whole (Err (Stuck row reason)) taken_apart
          tuple_not reason e =
              tuple_is (then_goes _ (told next (decoded whole)) (not_sticks row _ (ap (λ (k : ℕ). row_world.parts w.message.0 k memory) count_is ∙ parted_not _ _ _ _ parts e)))

          pub tuple_done : (word' : ℕ) → parted ≡ Ok word' → {answer : Walked} {after : Slices} → WalkMatchesParts patterns kind (take n children) word' w' taken_apart answer after
              → WalkMatches patterns kind row w whole answer after
          tuple_done word' taken h =
              let exact : length (parts_of (shape_of word')) ≡ n = parts.exactly word' taken in
              let g : ℕ → ℕ = λ i. get_or (parts_of (shape_of word')) i w.message.0 in
              let each : PartsOf (take n children) word' g =
              λ i l. let less : i < n = omega (arith, long, l) in inside (parts_of (shape_of word')) i w.message.0 0 (omega arith) ∙ parts_at word' i (omega arith) in
              let same : inner ≡ parts_by (pattern_in patterns) (take n children) = rw (counted, slots) in
              tuple_is (then_goes _ (told next (decoded whole))
              (gets row _ (ap (λ (k : ℕ). row_world.parts w.message.0 k memory) count_is ∙ parted_tuple _ _ _ _ parts taken)
              (comes_as (ap (λ (ps : Parts). match_parts row_world kind ps zero g (stores_at w' taken_apart)) same) (h g each))))

-- the first k parts are matched: what matches the rest matches all of them
pub record PartsMatched (patterns : List ℕ) (kind : ℕ → ℕ) (children : List ℕ) (parts : ℕ) (w₀ : Walk) (before : Slices) (k : ℕ) (w : Walk) (after : Slices) : Type 0 where
  pub low : k ≤ length children
  pub message : w.message.0 ≡ unset → ⊥
  pub within : Within after.rows w.used
  pub more : w₀.used ≤ w.used
  pub kept : Kept w₀.used before after
  pub same : (g : ℕ → ℕ) → PartsOf children parts g
      → match_parts row_world kind (parts_by (pattern_in patterns) children) 0 g (stores_at w₀ before)
      ≡ match_parts row_world kind (parts_by (pattern_in patterns) (drop k children)) k g (stores_at w after)

module _ (patterns : List ℕ) (kind : ℕ → ℕ) (children : List ℕ) (parts : ℕ) (w₀ : Walk) (before : Slices) where
  pub parts_none : (w₀.message.0 ≡ unset → ⊥) → Within before.rows w₀.used → PartsMatched patterns kind children parts w₀ before 0 w₀ before
  parts_none is_message within =
      record { low = omega arith; message = is_message; within = within; more = le_refl w₀.used; kept = kept_same; same = λ g each. refl }

  module _ (k : ℕ) (w : Walk) (mid : Slices) (matched : PartsMatched patterns kind children parts w₀ before k w mid) where
    pub parts_end : length children ≤ k → WalkMatchesParts patterns kind children parts w₀ before (Ok w) mid
    parts_end past g each =
        let last : k ≡ length children = omega (arith, matched.low) in
        let none : parts_by (pattern_in patterns) (drop k children) ≡ end = ap (λ (j : ℕ). parts_by (pattern_in patterns) (drop j children)) last ∙ rw (drop-length children) in
        comes_as (matched.same g each ∙ ap (λ (ps : Parts). match_parts row_world kind ps k g (stores_at w mid)) none)
        (goes refl (record { message = matched.message; more = matched.more; inside = matched.within.used_rows_lem }) matched.kept)

    module _ (inside : k < length children) (message : TermRow) (is : message.0 ≡ at (3 + k) (split term_widths parts)) (w₁ : Walk) (met : w₁ ≡ meeting w message) {came : Walked}
        {after : Slices} (walked : WalkMatches patterns kind (get_or children k 0) w₁ mid came after) where
      abbrev child : Pattern
      child = pattern_in patterns (get_or children k 0)

      abbrev rest : Parts
      rest = parts_by (pattern_in patterns) (drop (suc k) children)

      from_part : (g : ℕ → ℕ) → PartsOf children parts g
          → match_parts row_world kind (parts_by (pattern_in patterns) children) 0 g (stores_at w₀ before)
          ≡ bind (match row_world kind child (Some message.0) (stores_at w mid)) (λ n. match_parts row_world kind rest (suc k) g n)
      from_part g each =
          let split_off : parts_by (pattern_in patterns) (drop k children) ≡ part child rest = ap (parts_by (pattern_in patterns)) (drop-cons children k 0 inside) in
          matched.same g each ∙ ap (λ (ps : Parts). match_parts row_world kind ps k g (stores_at w mid)) split_off
          ∙ ap (λ (m : ℕ). bind (match row_world kind child (Some m) (stores_at w mid)) (λ n. match_parts row_world kind rest (suc k) g n)) (each k inside ∙ sym is)

      is_row : message.0 ≡ unset → ⊥
      is_row e = part_set parts k (sym is ∙ e)

      first : Comes stores_alone w.used mid (match row_world kind child (Some message.0) (stores_at w mid)) came after
      first = met_message patterns kind (get_or children k 0) w message is_row met walked

      pub parts_ended : {ended : Ended} {answer : Walked} → came ≡ Err ended → IsErrAnd answer (λ e. e ≡ ended) → WalkMatchesParts patterns kind children parts w₀ before answer after
      parts_ended e raise g each = comes_as (from_part g each) (comes_after w.used matched.more matched.kept (passes _ e raise first))

      pub parts_more : (w' : Walk) → came ≡ Ok w' → PartsMatched patterns kind children parts w₀ before (k + 1) w' after
      parts_more w' e = record {
        low = omega (arith, inside);
        message = in_hand first w' e;
        within = within_next first w' e matched.within;
        more = omega (arith, matched.more, (onward (told e first)).more);
        kept = kept_then matched.more matched.kept (comes_kept first);
        same = λ g each. from_part g each ∙ rw (done_as (told e first), add-one);
      }

-- let r = p1 in p2
module _ (patterns : List ℕ) (kind : ℕ → ℕ) (certificates rows objects named : List ℕ) (row word : ℕ) (w : Walk) (asks : StandsAt patterns row word) (nine : (pattern_fields word).tag ≡ 9)
    (r : Raw) (binds : r.0 ≡ (pattern_fields word).r) (known : TermRow) (read : known.0 ≡ get_or named r.0 unset) where
  abbrev unbound : Slices
  unbound = slices objects named rows certificates

  low : r.0 < 64
  low = rw binds (raw_below word)

  let_is : {answer : Walked} {after : Slices} (children : List ℕ) → children ≡ (pattern_fields word).slots
      → Comes stores_alone w.used unbound (meets kind (let_in row r.0 (pattern_in patterns (get_or children 0 0)) (pattern_in patterns (get_or children 1 0))) w
      (stores_at w unbound)) answer after
      → WalkMatches patterns kind row w unbound answer after
  let_is children slots h =
      as_pattern patterns kind row w (let_in row r.0 (pattern_in patterns (get_or children 0 0)) (pattern_in patterns (get_or children 1 0)))
      (let_row asks _ (slot children word 0 slots) _ (slot children word 1 slots) nine ∙ rw binds) h

  pub let_set : (known.0 ≡ unset → ⊥) → WalkMatches patterns kind row w unbound (Err (Stuck row Unset)) unbound
  let_set is_row = let_is (pattern_fields word).slots refl (set_sticks row _ (named_row _ _ _ _ r.0 low read is_row))

  module _ (none : known.0 ≡ unset) (children : List ℕ) (slots : children ≡ (pattern_fields word).slots) {came : Walked} {objects' named' rows' : List ℕ}
      (walked : WalkMatches patterns kind (get_or children 1 0) w unbound came (slices objects' named' rows' certificates)) where
    abbrev mid : Slices
    mid = slices objects' named' rows' certificates

    let_freed : {answer : Walked} {after : Slices}
        → Comes stores_alone w.used unbound (bind (match row_world kind (pattern_in patterns (get_or children 1 0)) (held w.message.0) (stores_at w unbound))
        (λ n. bind (Outcome.need row (n.ρ r.0)) λ m. match row_world kind (pattern_in patterns (get_or children 0 0)) (Some m) n)) answer after
        → WalkMatches patterns kind row w unbound answer after
    let_freed h = let_is children slots (frees row _ (named_unset _ _ _ _ r.0 low read none) h)

    pub let_ended : {ended : Ended} {answer : Walked} → came ≡ Err ended → IsErrAnd answer (λ e. e ≡ ended) → WalkMatches patterns kind row w unbound answer mid
    let_ended h raise = let_freed (passes _ h raise walked)

    module _ (w' : Walk) (next : came ≡ Ok w') where
      pub let_within : Within unbound.rows w.used → Within mid.rows w'.used
      let_within within = within_next walked w' next within

      module _ (bound : TermRow) (again : bound.0 ≡ get_or named' r.0 unset) where
        pub let_unset : bound.0 ≡ unset → WalkMatches patterns kind row w unbound (Err (Stuck row Unset)) mid
        let_unset e = let_freed (then_goes _ (told next walked) (unset_sticks row _ (named_unset _ _ _ _ r.0 low again e)))

        pub let_done : (bound.0 ≡ unset → ⊥) → (w₁ : Walk) → w₁ ≡ meeting w' bound → {answer : Walked} {after : Slices}
            → WalkMatches patterns kind (get_or children 0 0) w₁ mid answer after → WalkMatches patterns kind row w unbound answer after
        let_done is_row w₁ met h =
            let_freed (then_goes _ (told next walked)
            (reads row _ (named_row _ _ _ _ r.0 low again is_row) (met_message patterns kind (get_or children 0 0) w' bound is_row met h)))
