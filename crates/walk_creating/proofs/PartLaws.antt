-- The parts of a tuple, one after the other.
use Rattle.std.specs.Prelude.{Err, Ok}
use Rattle.std.specs.Result.{IsErrAnd}
use Prim.Native.Nat.{ℕ, suc, ◌+◌, ◌<◌, ◌≤◌}
use mathlib.Core.Path.{◌≡◌, refl, sym, ap, ◌∙◌, fun_ext}
use mathlib.Core.List.{List, [], ◌∷◌, ◌++◌, append_assoc, append-nil}
use native.Mathlib.Nat.{le_refl}
use native.Mathlib.Numerals.{add-one}
use native.Mathlib.Omega.{arith}
use lib.ListN.{length, get_or, take, drop, set, length-set}
use lib.Seq.{drop-cons, drop-length, get_or-take, take-suc-set}
use Rattle.numbers.specs.Kinds.{kind_in}
use Rattle.numbers.specs.declared.Object.{Object}
use Rattle.patterns.specs.Pattern.{tuple, Parts, end}
use Rattle.patterns.specs.Row.{pattern_fields, children_of}
use Rattle.patterns.specs.Standing.{pattern_in, StandsAt}
use Rattle.patterns.specs.Tree.{parts_by}
use Rattle.patterns.proofs.RowLaws.{children_count, child_slot}
use Rattle.patterns.proofs.StandingLaws.{good_row, slot_low, tuple_row}
use Rattle.theory.specs.Outcome.{Outcome, done, stuck, room, bind}
use Rattle.theory.specs.World.{Op}
use Rattle.theory.specs.World as Voc
use Rattle.theory.specs.RowModel.{row_world}
use Rattle.theory.specs.Machine.{Stores}
use Rattle.theory.specs.Rules.{makes, made, create_parts}
use Rattle.world.specs.Operations.{MakesWord}
use Rattle.machine.specs.Machine.{Slices, with_objects, with_term_rows, Within}
use Rattle.walks.specs.Walks.{Walked, stores_at, Kept, Comes, sticks, fills, message_and_stores, WalksBy}
use Rattle.walks.specs.declared.Walk.{Walk}
use Rattle.walks.specs.declared.Ended.{Ended}
use Rattle.walks.proofs.AskedLaws.{raised}
use Rattle.walks.proofs.ComesLaws.{kept_same, kept_then, comes_after, comes_as}
use Rattle.walk_values.proofs.ThenLaws.{done_then, next_done, next_more, next_kept, next_within}
use Rattle.walk_leaves.specs.Creation.{creation, CreatesBy}
use Rattle.walk_leaves.proofs.FormLaws.{creates_as}

-- a tuple has few parts, each below it
module _ {rows : List ℕ} {row word : ℕ} (asked : StandsAt rows row word) (eight : (pattern_fields word).tag ≡ 8) (n : ℕ) (counted : n ≡ (pattern_fields word).n) where
  pub tuple_few : n ≤ 4
  tuple_few = omega (arith, ((good_row asked).tuple eight).0)

  pub part_low : (k child : ℕ) → child ≡ get_or (pattern_fields word).slots k 0 → k < n → child < row
  part_low k child is less = rw is (slot_low asked n k (sym counted) less tuple_few)

  -- the children that are walked
  module _ (slots : List ℕ) (own : slots ≡ (pattern_fields word).slots) where
    front_is : take n slots ≡ children_of word
    front_is = rw (own, counted)

    pub front_length : length (take n slots) ≡ n
    front_length = ap length front_is ∙ children_count word ∙ omega (arith, tuple_few, counted)

    pub front_slot : (k : ℕ) → k < length (take n slots) → get_or (take n slots) k 0 ≡ get_or (pattern_fields word).slots k 0
    front_slot k inside = rw front_is (child_slot word k (rw front_is at inside))

-- the parts of figure 3 at rows
unfoldable pub parts_rule : List ℕ → Parts → Stores row_world → Outcome (List ℕ × Stores row_world)
parts_rule kinds ps n = create_parts row_world (kind_in kinds) ps n

parts_none : (kinds : List ℕ) (n : Stores row_world) → parts_rule kinds end n ≡ done ([], n)
unfolding parts_rule
parts_none kinds n = refl

-- what is stuck or full in the middle is so in all
module _ {A B : Type 0} {seen : ℕ → Stores row_world → A} {later : ℕ → Stores row_world → B} {used : ℕ} {before : Slices} (f : Outcome A → Outcome B) where
  strict_ends : ((row why : ℕ) → f (stuck row why) ≡ stuck row why) → ((row : ℕ) → f (room row) ≡ room row) → {o : Outcome A} {ended : Ended} {after : Slices}
      → Comes seen used before o (Err ended) after → Comes later used before (f o) (Err ended) after
  strict_ends stuck_so room_so (sticks {row = row} {why = why} e kept) = rw (stuck_so row why) (sticks e kept)
  strict_ends stuck_so room_so (fills {row = row} kept) = rw (room_so row) (fills kept)

abbrev pub joining : List ℕ → List ℕ × Stores row_world → Outcome (List ℕ × Stores row_world)
joining front ms = done (front ++ ms.0, ms.1)

all_joined : (o : Outcome (List ℕ × Stores row_world)) → o ≡ bind o (joining [])
all_joined (done a) = refl
all_joined (stuck place why) = refl
all_joined (room place) = refl

-- and then the tuple
abbrev finishing : List ℕ → ℕ → ℕ → Outcome (List ℕ × Stores row_world) → Outcome (ℕ × Stores row_world)
finishing kinds row v o = bind o (λ ms. makes row_world (kind_in kinds) row v (Voc.tuple ms.0) ms.1 (made row_world (kind_in kinds)))

tuple_rule : (kinds : List ℕ) (row v : ℕ) (ps : Parts) (n : Stores row_world) → creation kinds (tuple row v ps) n ≡ finishing kinds row v (parts_rule kinds ps n)
unfolding creation parts_rule
tuple_rule kinds row v ps n = refl

-- the first k parts are created: what creates the rest creates all of them
pub record Gathered (rows kinds : List ℕ) (word : ℕ) (w₀ : Walk) (before : Slices) (k : ℕ) (parts : List ℕ) (w : Walk) (after : Slices) : Type 0 where
  pub low : k ≤ (pattern_fields word).n
  pub four : length parts ≡ 4
  pub same : parts_rule kinds (parts_by (pattern_in rows) (children_of word)) (stores_at w₀ before)
      ≡ bind (parts_rule kinds (parts_by (pattern_in rows) (drop k (children_of word))) (stores_at w after)) (joining (take k parts))
  pub more : w₀.used ≤ w.used
  pub within : Within after.rows w.used
  pub kept : Kept w₀.used before after

module _ (rows kinds : List ℕ) (word : ℕ) (w₀ : Walk) (before : Slices) where
  pub gathered_none : (parts : List ℕ) → length parts ≡ 4 → Within before.rows w₀.used → Gathered rows kinds word w₀ before 0 parts w₀ before
  gathered_none parts four within =
      record { low = omega arith; four = four; same = all_joined _; more = le_refl w₀.used; within = within; kept = kept_same }

  module _ (row : ℕ) (asked : StandsAt rows row word) (eight : (pattern_fields word).tag ≡ 8) (k : ℕ) {parts : List ℕ} {w : Walk} {mid : Slices}
      (gathered : Gathered rows kinds word w₀ before k parts w mid) where
    few : (pattern_fields word).n ≤ 4
    few = tuple_few asked eight (pattern_fields word).n refl

    counted : length (children_of word) ≡ (pattern_fields word).n
    counted = children_count word ∙ omega (arith, few)

    module _ (less : k < (pattern_fields word).n) (child : ℕ) (is : child ≡ get_or (pattern_fields word).slots k 0) where
      next_part : drop k (children_of word) ≡ child ∷ drop (suc k) (children_of word)
      next_part = drop-cons (children_of word) k 0 (omega (arith, counted)) ∙ rw (get_or-take (pattern_fields word).n (pattern_fields word).slots k 0 less, is)

      abbrev rest : Parts
      rest = parts_by (pattern_in rows) (drop (suc k) (children_of word))

      -- from the part on
      abbrev going : Outcome (ℕ × Stores row_world) → Outcome (List ℕ × Stores row_world)
      going o = bind (bind o (λ m. bind (parts_rule kinds rest m.1) (λ ms. done (m.0 ∷ ms.0, ms.1)))) (joining (take k parts))

      from_part : parts_rule kinds (parts_by (pattern_in rows) (children_of word)) (stores_at w₀ before) ≡ going (creation kinds (pattern_in rows child) (stores_at w mid))
      unfolding parts_rule creation
      from_part = gathered.same ∙ ap (λ (l : List ℕ). bind (parts_rule kinds (parts_by (pattern_in rows) l) (stores_at w mid)) (joining (take k parts))) next_part

      module _ (made : Walked) {after : Slices} (inner : CreatesBy kinds (pattern_in rows child) w mid made after) where
        pub gathered_more : (next : Walk) → made ≡ Ok next → Gathered rows kinds word w₀ before (k + 1) (set parts k next.message.0) next after
        gathered_more next e =
            let m = next.message.0 in
            let joined : (ms : List ℕ × Stores row_world) → take k parts ++ (m ∷ ms.0) ≡ take (k + 1) (set parts k m) ++ ms.0 =
            λ ms. sym (rw (add-one, take-suc-set parts k m (omega (arith, gathered.four, few))) (append_assoc (take k parts) (m ∷ []) ms.0)) in
            record {
              low = omega arith;
              four = length-set parts k m ∙ gathered.four;
              same = from_part ∙ ap going (next_done inner e)
                  ∙ sym (done_then (parts_rule kinds rest (stores_at next after)) (λ ms. (m ∷ ms.0, ms.1)) (joining (take k parts)))
                  ∙ ap (λ (f : List ℕ × Stores row_world → List ℕ). bind (parts_rule kinds rest (stores_at next after)) (λ ms. done (f ms, ms.1))) (fun_ext joined)
                  ∙ rw add-one;
              more = omega (arith, gathered.more, next_more inner e);
              within = next_within inner e gathered.within;
              kept = kept_then gathered.more gathered.kept (next_kept inner);
            }

        module _ (t : Object) (variable : t.0 ≡ (pattern_fields word).v) where
          -- what a part comes to, as far as the tuple does not go on
          ends : {answer : Walked} → Comes message_and_stores w.used mid (finishing kinds row t.0 (going (creation kinds (pattern_in rows child) (stores_at w mid)))) answer after
              → CreatesBy kinds (pattern_in rows row) w₀ before answer after
          ends h =
              creates_as kinds w₀ (tuple_row asked eight ∙ rw (← variable))
              (comes_as (tuple_rule kinds row t.0 _ (stores_at w₀ before) ∙ ap (finishing kinds row t.0) from_part)
              (comes_after w.used gathered.more gathered.kept h))

          pub tuple_ended : {ended : Ended} {answer : Walked} → made ≡ Err ended → IsErrAnd answer (λ e. e ≡ ended) → CreatesBy kinds (pattern_in rows row) w₀ before answer after
          tuple_ended e raise = rw (raised raise) (ends (strict_ends (λ o. finishing kinds row t.0 (going o)) (λ row why. refl) (λ row. refl) (rw e at inner)))

    -- all parts are created
    module _ (n : ℕ) (is : n ≡ (pattern_fields word).n) (past : n ≤ k) (t : Object) (variable : t.0 ≡ (pattern_fields word).v) where
      none_left : drop k (children_of word) ≡ []
      none_left =
          let all : k ≡ length (children_of word) = omega (arith, counted, gathered.low) in
          rw all (drop-length (children_of word))

      all_parts : parts_rule kinds (parts_by (pattern_in rows) (children_of word)) (stores_at w₀ before) ≡ done (take n parts, stores_at w mid)
      all_parts =
          let exactly : k ≡ n = omega (arith, gathered.low) in
          gathered.same ∙ rw (none_left, parts_none kinds (stores_at w mid), append-nil (take k parts), exactly)

      pub tuple_made : (term : ℕ) → MakesWord (Voc.tuple (take n parts)) term → {answer : Walked} {objects' terms' : List ℕ}
          → ((kind : ℕ → ℕ) (o : Op ℕ) → MakesWord o term → WalksBy message_and_stores (λ n. makes row_world kind row t.0 o n (made row_world kind)) w
          (λ x. with_term_rows (with_objects x mid.objects) mid.rows) answer (λ x. with_term_rows (with_objects x objects') terms'))
          → CreatesBy kinds (pattern_in rows row) w₀ before answer (with_term_rows (with_objects mid objects') terms')
      tuple_made term says h =
          creates_as kinds w₀ (tuple_row asked eight ∙ rw (← variable))
          (comes_as (tuple_rule kinds row t.0 _ (stores_at w₀ before) ∙ ap (finishing kinds row t.0) all_parts)
          (comes_after w.used gathered.more gathered.kept (h (kind_in kinds) (Voc.tuple (take n parts)) says mid)))
