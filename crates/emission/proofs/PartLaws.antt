-- The parts of a tuple, one after the other.
use Prim.Native.Nat.{ℕ, zero, suc, ◌+◌, ◌*◌, ◌≤◌, ◌<◌}
use mathlib.Core.Path.{◌≡◌, refl, sym, ap, ◌∙◌}
use mathlib.Core.List.{List, [], ◌∷◌, map}
use native.Mathlib.Nat.{add-zero}
use native.Mathlib.Numerals.{add-one}
use native.Mathlib.Omega.{arith}
use lib.ListN.{length, get_or, take, drop_of_length-le}
use lib.Seq.{drop-cons, get_or-take, length-take-le}
use Rattle.patterns.specs.Pattern.{Pattern, tuple, Parts, end, part, count, size, sizes}
use Rattle.patterns.specs.Row.{pattern_fields, children_of}
use Rattle.patterns.specs.Tree.{parts_by}
use Rattle.patterns.proofs.PatternLaws.{size_positive, count_sizes}
use Rattle.patterns.proofs.RowLaws.{children_count}
use Rattle.patterns.proofs.TreeLaws.{parts_count}
use Rattle.theory.specs.Emission.{Env, Emitted, ok, ◌then◌}
use Rattle.emission.specs.declared.Part.{Part}
use Rattle.knowing.specs.Steps.{raise}
use Rattle.knowing.specs.Meets.{Does, Quiet, RoomFor}
use Rattle.patterns.specs.Standing.{pattern_in}
use Rattle.emission.specs.Budget.{most_words, most_scratches, words_of, scratches_of, Row, RowAt, RoomParts}
use Rattle.emission.specs.Parts.{parts_from, part_at, parts_in, PartsAt, DoesParts}
use Rattle.knowing.proofs.MeetsLaws.{does_as, does_le, does_seq, does_none}
use Rattle.emission.proofs.BudgetLaws.{room_as}
use Rattle.patterns.proofs.StandingLaws.{stands_below, good_row, slot_low, tuple_row}
use Rattle.knowing.specs.declared.Emission.{Emission}

-- the parts of a tuple from the kth on
module _ (rows : List ℕ) (parts : List Part) (k : ℕ) where
  parts_more : k < length parts → parts_in rows parts k ≡ part (pattern_in rows (part_at parts k).child) (parts_in rows parts (k + 1))
  parts_more inside =
      ap (λ (l : List Part). parts_by (pattern_in rows) (map (λ p. p.child) l)) (drop-cons parts k (record { child = 0; scratch = 0 }) inside) ∙ rw (add-one k)

  parts_none : length parts ≤ k → parts_in rows parts k ≡ end
  parts_none past = rw (drop_of_length-le parts {i = k} past)

-- for the parts there is emitted what is emitted for each, in turn
pub record InTurn (one : Pattern → ℕ → ℕ → Env → Emitted) (all : Parts → ℕ → ℕ → Env → Emitted) : Type 0 where
  pub none : (row r : ℕ) (env : Env) → all end row r env ≡ ok [] env
  pub more : (p : Pattern) (ps : Parts) (row r : ℕ) (env : Env) → all (part p ps) row r env ≡ (one p row r then all ps row (suc r)) env

-- the first k parts are walked: what walks the rest walks all of them
pub record Walked (all : Parts → ℕ → ℕ → Env → Emitted) (rows : List ℕ) (row : ℕ) (parts : List Part) (e₀ : Emission) (code₀ : List ℕ) (k : ℕ) (e : Emission) (code : List ℕ) : Type 0 where
  pub room : RoomParts (parts_in rows parts k) e
  pub done : (e' : Emission) (code' : List ℕ)
      → Does (all (parts_in rows parts k) row ((part_at parts 0).scratch + k)) (words_of (parts_in rows parts k)) (scratches_of (parts_in rows parts k)) e code e' code'
      → DoesParts all rows row parts e₀ code₀ e' code'

module _ {one : Pattern → ℕ → ℕ → Env → Emitted} {all : Parts → ℕ → ℕ → Env → Emitted} (turn : InTurn one all)
    (rows : List ℕ) (row : ℕ) (parts : List Part) {e₀ : Emission} (asked : PartsAt rows row parts e₀) where
  pub parts_begin : (code₀ : List ℕ) → Walked all rows row parts e₀ code₀ 0 e₀ code₀
  parts_begin code₀ = record { room = asked.room; done = λ e' code' d. rw add-zero at d }

  module _ {code₀ : List ℕ} (k : ℕ) {e : Emission} {code : List ℕ} (walked : Walked all rows row parts e₀ code₀ k e code) where
    pub parts_end : length parts ≤ k → DoesParts all rows row parts e₀ code₀ e code
    unfolding sizes count
    parts_end ge =
        let h = parts_none rows parts k ge in
        walked.done e code (rw h (does_as (turn.none row ((part_at parts 0).scratch + k)) (does_le (omega arith) (omega arith) does_none)))

    module _ (less : k < length parts) where
      abbrev this : Pattern
      this = pattern_in rows (part_at parts k).child

      room_more : RoomParts (part this (parts_in rows parts (k + 1))) e
      room_more = rw (parts_more rows parts k less) at walked.room

      -- one word, and what the part's pattern asks
      pub part_room : RoomFor (8 * size this) (most_scratches this) e
      unfolding sizes count
      part_room =
          let room = room_more in
          let s = size_positive this in
          let t = count_sizes (parts_in rows parts (k + 1)) in
          record { place = omega (arith, room.place); free = omega (arith, room.free) }

      pub part_row : {e₁ : Emission} → RoomFor (most_words this) (most_scratches this) e₁ → Row rows (part_at parts k).child e₁
      part_row room =
          let below = asked.below k less in
          record { stands = stands_below asked.stands below; room = room }

      pub parts_next : {e₁ : Emission} {code₁ : List ℕ} → Does (one this row (part_at parts k).scratch) (8 * size this) (most_scratches this) e code e₁ code₁ → Walked all rows row parts e₀ code₀ (k + 1) e₁ code₁
      unfolding sizes count
      parts_next {e₁} {code₁} made =
          let room = room_more in
          let rest = parts_in rows parts (k + 1) in
          let s = size_positive this in
          let t = count_sizes rest in
          let first = (part_at parts 0).scratch in
          let here : Does (one this row (first + k)) (8 * size this) (most_scratches this) e code e₁ code₁ = rw (asked.laid k less) at made in
          let last : first + (k + 1) ≡ suc (first + k) = omega arith in
          record {
            room = record { place = omega (arith, room.place, made.place); free = omega (arith, room.free, made.free) };
            done = λ e' code' d. walked.done e' code'
                (rw (parts_more rows parts k less)
                (does_as (turn.more this rest row (first + k)) (does_le (omega arith) (omega arith) (does_seq here (rw last at d)))));
          }

map_take : (n : ℕ) (parts : List Part) → map (λ p. p.child) (take n parts) ≡ take n (map (λ p. p.child) parts)
map_take zero parts = refl
map_take (suc n) [] = refl
map_take (suc n) (p ∷ ps) = ap (p.child ∷◌) (map_take n ps)

-- the four parts, slot by slot
part_slot : (slots : List ℕ) (first k : ℕ) → k < 4 → ((part_at (parts_from slots first) k).child ≡ get_or slots k 0) × ((part_at (parts_from slots first) k).scratch ≡ first + k)
part_slot slots first zero l = (refl, omega arith)
part_slot slots first (suc zero) l = (refl, refl)
part_slot slots first (suc (suc zero)) l = (refl, refl)
part_slot slots first (suc (suc (suc zero))) l = (refl, refl)
part_slot slots first (suc (suc (suc (suc k)))) l = absurd (omega arith)

children_slots : (word first : ℕ) → map (λ p. p.child) (parts_from (pattern_fields word).slots first) ≡ (pattern_fields word).slots
unfolding pattern_fields
children_slots word first = refl

-- t : [p1 .. pn]
module _ (rows : List ℕ) (row word : ℕ) {e : Emission} (asked : RowAt rows row word e) (eight : (pattern_fields word).tag ≡ 8) (n : ℕ) (counted : n ≡ (pattern_fields word).n) where
  pub tuple_few : n ≤ 4
  tuple_few = omega (arith, ((good_row asked.standing).tuple eight).0)

  module _ (slots : List ℕ) (got : slots ≡ (pattern_fields word).slots) (first : ℕ) (parts : List Part) (made : parts ≡ take n (parts_from slots first)) where
    parts_in_lem : parts_in rows parts 0 ≡ parts_by (pattern_in rows) (children_of word)
    parts_in_lem =
        let same : map (λ p. p.child) parts ≡ children_of word = rw made (map_take n (parts_from slots first) ∙ rw (got, children_slots word first, counted)) in
        ap (parts_by (pattern_in rows)) same

    -- the first part's scratch number, or 0 where there is no part
    first_scratch : (part_at parts 0).scratch ≤ first
    first_scratch = rw made (by n)
      where
        by : (m : ℕ) → (part_at (take m (parts_from slots first)) 0).scratch ≤ first
        by zero = omega arith
        by (suc m) = omega arith

    -- what is emitted for the parts from their first scratch number on, also for none
    pub parts_first : {one : Pattern → ℕ → ℕ → Env → Emitted} {all : Parts → ℕ → ℕ → Env → Emitted} → InTurn one all → {e₁ : Emission} {code : List ℕ} {e₂ : Emission} {code₂ : List ℕ}
        → DoesParts all rows row parts e₁ code e₂ code₂
        → Does (all (parts_in rows parts 0) row first) (words_of (parts_in rows parts 0)) (scratches_of (parts_in rows parts 0)) e₁ code e₂ code₂
    parts_first {all = all} turn {e₁} {code} {e₂} {code₂} d = rw made (by n (rw made at d))
      where
        by : (m : ℕ) → DoesParts all rows row (take m (parts_from slots first)) e₁ code e₂ code₂
            → Does (all (parts_in rows (take m (parts_from slots first)) 0) row first) (words_of (parts_in rows (take m (parts_from slots first)) 0))
            (scratches_of (parts_in rows (take m (parts_from slots first)) 0)) e₁ code e₂ code₂
        by zero k = does_as (λ env. turn.none row first env ∙ sym (turn.none row 0 env)) k
        by (suc m) k = k

    pub tuple_is : pattern_in rows row ≡ tuple row (pattern_fields word).v (parts_in rows parts 0)
    tuple_is = tuple_row asked.standing eight ∙ rw (← parts_in_lem)

    pub tuple_counts : count (parts_in rows parts 0) ≡ n
    tuple_counts = rw parts_in_lem (parts_count (pattern_in rows) (children_of word) ∙ children_count word ∙ omega (arith, tuple_few))

    pub tuple_room : RoomFor (8 * sizes (parts_in rows parts 0) + 7) (2 * sizes (parts_in rows parts 0) + 1) e
    unfolding size
    tuple_room =
        let room = room_as rows row (tuple row (pattern_fields word).v (parts_in rows parts 0)) tuple_is asked.room in
        record { place = omega (arith, room.place); free = omega (arith, room.free) }

    -- a word before the scratch numbers are taken and one after it leave room for the parts
    pub tuple_parts : {f g : Env → Emitted} {e₁ e₂ e₃ : Emission} {code code₁ code₃ : List ℕ} → Does f 1 0 e code e₁ code₁ → first ≡ e₁.next → Quiet (raise n) n e₁ e₂ → Does g 1 0 e₂ code₁ e₃ code₃
        → PartsAt rows row parts e₃
    tuple_parts before next taken after =
        let room = tuple_room in
        let c = count_sizes (parts_in rows parts 0) in
        let d = tuple_counts in
        let f = tuple_few in
        let long : length parts ≡ n = rw made (length-take-le n (parts_from slots first) tuple_few) in
        record {
          stands = asked.standing.stands;
          below = λ k l.
              let less : k < n = omega (arith, long) in
              rw (made, get_or-take n (parts_from slots first) k (record { child = 0; scratch = 0 }) less, (part_slot slots first k (omega arith)).0, got)
              (slot_low asked.standing n k (sym counted) less tuple_few);
          laid = λ k l.
              let less : k < n = omega (arith, long) in
              let some : 0 < n = omega arith in
              rw (made, get_or-take n (parts_from slots first) k (record { child = 0; scratch = 0 }) less, get_or-take n (parts_from slots first) 0 (record { child = 0; scratch = 0 }) some)
              (part_slot slots first k (omega arith)).1;
          cells = omega (arith, long, first_scratch, room.free, before.free);
          room = record {
            place = omega (arith, room.place, before.place, taken.place, after.place);
            free = omega (arith, room.free, before.free, taken.free, after.free);
          };
        }
