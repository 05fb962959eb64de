-- A tuple, part by part.
use Prim.Native.Nat.{ℕ, suc, ◌+◌, ◌*◌, ◌<◌}
use mathlib.Core.Path.{◌≡◌, refl, sym, subst}
use mathlib.Core.List.{List, []}
use native.Mathlib.Omega.{arith}
use lib.Dec.{lit≤}
use lib.ListN.{length, take as front}
use Rattle.numbers.specs.Sorts.{as_object}
use Rattle.numbers.specs.declared.Raw.{Raw}
use Rattle.code.specs.declared.Instruction.TheVariants.{Store, CreateTuple, Encode}
use Rattle.patterns.specs.Pattern.{Pattern, tuple, Parts, count, size}
use Rattle.patterns.specs.Row.{pattern_fields}
use Rattle.patterns.proofs.PatternLaws.{size_positive, count_sizes}
use Rattle.theory.specs.Machine.{scratch}
use Rattle.theory.specs.Emission.{Env, Emitted, emit, ◌then◌}
use Rattle.numbers.specs.Kinds.{kind_in}
use Rattle.theory.specs.Compilers.{STORE, CREATE_TUPLE, ENCODE, compile↑parts}
use Rattle.emission.specs.declared.Part.{Part}
use Rattle.knowing.specs.Steps.{raise}
use Rattle.knowing.specs.Meets.{Does, Quiet, RoomFor}
use Rattle.patterns.specs.Standing.{pattern_in}
use Rattle.emission.specs.Budget.{most_scratches, words_of, scratches_of, Row, RowAt}
use Rattle.emission.specs.Parts.{parts_from, part_at, parts_in, PartsAt}
use Rattle.knowing.proofs.MeetsLaws.{then_assoc, does_le, does_seq, does_none, does_take}
use Rattle.emission.proofs.BudgetLaws.{as_row, room_le, room_then}
use Rattle.emission.proofs.PartLaws.{InTurn, Walked, part_room, part_row, parts_next, tuple_is, tuple_counts, tuple_room, tuple_parts, parts_first}
use Rattle.creating.specs.Creates.{pattern_code, parts_code, Creates, CreatesParts}
use Rattle.knowing.specs.declared.Emission.{Emission}

-- the part's code, and then STORE
abbrev stores : List ℕ → Pattern → ℕ → ℕ → Env → Emitted
stores kinds p row r = pattern_code kinds p then emit row (STORE (scratch r))

pub in_turn_lem : (kinds : List ℕ) → InTurn (stores kinds) (parts_code kinds)
unfolding pattern_code parts_code
in_turn_lem kinds =
    record {
      none = λ row r env. refl;
      more = λ p ps row r env. sym (then_assoc (pattern_code kinds p env) (emit row (STORE (scratch r))) (parts_code kinds ps row (suc r)));
    }

module _ (rows kinds : List ℕ) (row : ℕ) (parts : List Part) {e₀ : Emission} (asked : PartsAt rows row parts e₀) {code₀ : List ℕ} (k : ℕ) {e : Emission} {code : List ℕ}
    (walked : Walked (parts_code kinds) rows row parts e₀ code₀ k e code) (less : k < length parts) where
  room : RoomFor (8 * size (pattern_in rows (part_at parts k).child)) (most_scratches (pattern_in rows (part_at parts k).child)) e
  room = part_room (in_turn_lem kinds) rows row parts asked k walked less

  pub part_asks : Row rows (part_at parts k).child e
  part_asks = part_row (in_turn_lem kinds) rows row parts asked k walked less (room_le (omega arith) (omega arith) room)

  module _ {e₁ : Emission} {code₁ : List ℕ} (made : Creates rows kinds (part_at parts k).child e code e₁ code₁) where
    pub part_stores : RoomFor 1 0 e₁
    part_stores = room_then (omega (arith, size_positive (pattern_in rows (part_at parts k).child))) (omega arith) room made

    pub part_done : {s : Raw} {e₂ : Emission} {code₂ : List ℕ} → s ≡ scratch (part_at parts k).scratch → Does (emit row (Store s)) 1 0 e₁ code₁ e₂ code₂
        → Walked (parts_code kinds) rows row parts e₀ code₀ (k + 1) e₂ code₂
    part_done {e₂ = e₂} {code₂ = code₂} cell stored =
        let l : Does (emit row (STORE (scratch (part_at parts k).scratch))) 1 0 e₁ code₁ e₂ code₂ = rw cell at stored in
        parts_next (in_turn_lem kinds) rows row parts asked k walked less
        (does_le (omega (arith, size_positive (pattern_in rows (part_at parts k).child))) (omega arith) (does_seq made l))

-- t : [p1 .. pn]
module _ (rows : List ℕ) (row word : ℕ) {e : Emission} (asked : RowAt rows row word e) (eight : (pattern_fields word).tag ≡ 8) (n : ℕ) (counted : n ≡ (pattern_fields word).n)
    (slots : List ℕ) (got : slots ≡ (pattern_fields word).slots) (first : ℕ) (parts : List Part) (laid : parts ≡ front n (parts_from slots first)) {e₀ : Emission}
    (next : first ≡ e.next) (taken : Quiet (raise n) n e e₀) where
  abbrev all : Parts
  all = parts_in rows parts 0

  pub tuple_asks : PartsAt rows row parts e₀
  tuple_asks =
      tuple_parts rows row word asked eight n counted slots got first parts laid {code = []} (does_le (lit≤ tt) (lit≤ tt) does_none) next taken (does_le (lit≤ tt) (lit≤ tt) does_none)

  counts : count all ≡ n
  counts = tuple_counts rows row word asked eight n counted slots got first parts laid

  module _ (kinds : List ℕ) {code : List ℕ} {e₁ : Emission} {code₁ : List ℕ} (made : CreatesParts rows kinds row parts e₀ code e₁ code₁) where
    after_parts : RoomFor 2 0 e₁
    after_parts =
        let room = tuple_room rows row word asked eight n counted slots got first parts laid in
        let many = count_sizes all in
        record {
          place = omega (arith, room.place, taken.place, made.place);
          free = omega (arith, room.free, taken.free, made.free, counts);
        }

    pub tuple_create : RoomFor 1 0 e₁
    tuple_create = room_le (lit≤ tt) (lit≤ tt) after_parts

    pub tuple_encode : {g : Env → Emitted} {e₂ : Emission} {code₂ : List ℕ} → Does g 1 0 e₁ code₁ e₂ code₂ → RoomFor 1 0 e₂
    tuple_encode created = room_then (lit≤ tt) (lit≤ tt) after_parts created

  pub tuple_done : (kinds : List ℕ) (v : ℕ) (s : Raw) → v ≡ (pattern_fields word).v → s ≡ scratch first → {code : List ℕ} {e₁ : Emission} {code₁ : List ℕ} {e₂ : Emission} {code₂ : List ℕ} {e₃ : Emission} {code₃ : List ℕ} →
      CreatesParts rows kinds row parts e₀ code e₁ code₁
      → Does (emit row (CreateTuple (as_object v) s n)) 1 0 e₁ code₁ e₂ code₂ → Does (emit row (Encode (as_object v))) 1 0 e₂ code₂ e₃ code₃ → Creates rows kinds row e code e₃ code₃
  unfolding pattern_code parts_code size
  tuple_done kinds v s variable cell {code} {e₁} {code₁} {e₂} {code₂} {e₃} {code₃} walked created encoded =
      let many = count_sizes all in
      let one : Does (parts_code kinds all row e.next) (words_of all) (scratches_of all) e₀ code e₁ code₁ =
      rw next at (parts_first rows row word asked eight n counted slots got first parts laid (in_turn_lem kinds) walked) in
      let two : Does (emit row (CreateTuple (as_object (pattern_fields word).v) (scratch e.next) (count all))) 1 0 e₁ code₁ e₂ code₂ =
      rw (← variable, ← next, ← cell, counts) created in
      let three : Does (emit row (Encode (as_object (pattern_fields word).v))) 1 0 e₂ code₂ e₃ code₃ = rw (← variable) encoded in
      let raised : Quiet (raise (count all)) (count all) e e₀ = subst (λ (m : ℕ). Quiet (raise m) m e e₀) (sym counts) taken in
      as_row (pattern_code kinds) rows row (tuple row (pattern_fields word).v all) (tuple_is rows row word asked eight n counted slots got first parts laid)
      (does_le (omega arith) (omega arith)
      (does_take
      (λ rˢ. compile↑parts (kind_in kinds) all row rˢ then emit row (CREATE_TUPLE (pattern_fields word).v (scratch rˢ) (count all)) then emit row (ENCODE (pattern_fields word).v)) raised
      (does_seq one (does_seq two three))))
