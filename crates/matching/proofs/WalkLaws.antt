-- Rows with children.
use Prim.Native.Nat.{ℕ, zero, suc, ◌+◌, ◌*◌, ◌<◌}
use mathlib.Core.Path.{◌≡◌, refl, sym, ap, subst, ◌∙◌}
use mathlib.Core.List.{List, []}
use native.Mathlib.Omega.{arith}
use lib.ListN.{length, get_or, take as front}
use Rattle.numbers.specs.Sorts.{as_object}
use Rattle.numbers.specs.declared.Raw.{Raw}
use Rattle.code.specs.declared.Instruction.TheVariants.{Load, Decode, AnalyzeTuple, Decrypt}
use Rattle.patterns.specs.Pattern.{Pattern, plain_key, op_key, certified_key, encryption, tuple, let_in, size}
use Rattle.patterns.specs.Row.{pattern_fields}
use Rattle.patterns.proofs.PatternLaws.{size_positive, count_sizes}
use Rattle.answers.specs.declared.Compiled.TheVariants.{WrongKind}
use Rattle.theory.specs.Machine.{named, scratch}
use Rattle.theory.specs.Emission.{Env, Emitted, refuse, emit, take, ◌then◌}
use Rattle.theory.specs.Compilers.{LOAD, DECODE, ANALYZE_TUPLE, compile↓, compile↓parts}
use Rattle.emission.specs.declared.Part.{Part}
use Rattle.knowing.specs.Steps.{free_raw, raise}
use Rattle.knowing.specs.Meets.{Does, Quiet, RoomFor}
use Rattle.patterns.specs.Standing.{pattern_in}
use Rattle.emission.specs.Budget.{most_words, most_scratches, words_of, scratches_of, Row, RowAt}
use Rattle.emission.specs.Parts.{parts_from, part_at, parts_in, PartsAt}
use Rattle.knowing.proofs.MeetsLaws.{then_assoc, does_le, does_seq, does_take, does_free}
use Rattle.emission.proofs.BudgetLaws.{as_row, room_le, room_then, row_below, encryption_room, let_room}
use Rattle.patterns.proofs.StandingLaws.{encryption_key, encryption_child, encryption_row, let_children, let_row}
use Rattle.emission.proofs.PartLaws.{InTurn, Walked, part_room, part_row, parts_next, parts_first, tuple_is, tuple_counts, tuple_room}
use Rattle.matching.specs.Matches.{Matches, MatchesParts}
use Rattle.knowing.specs.declared.Emission.{Emission}

-- e : E(key, p)
module _ (rows : List ℕ) (row word : ℕ) {e : Emission} (asked : RowAt rows row word e) (five : (pattern_fields word).tag ≡ 5) (child : ℕ) (first : child ≡ get_or (pattern_fields word).slots 0 0) where
  pub encryption_asks : {f g : Env → Emitted} {code : List ℕ} {e₁ : Emission} {code₁ : List ℕ} {e₂ : Emission} {code₂ : List ℕ} → Does f 1 0 e code e₁ code₁ → Does g 1 0 e₁ code₁ e₂ code₂ → Row rows child e₂
  encryption_asks k l =
      row_below rows row child asked.standing.stands (encryption_child asked.standing child first five)
      (room_then (omega arith) (omega arith) (encryption_room asked child first five) (does_seq k l))

  module _ {code : List ℕ} {e' : Emission} (form : ℕ) (read : form ≡ (pattern_fields word).f) where
    pub encryption_done : {e₁ : Emission} {code₁ : List ℕ} {e₂ : Emission} {code₂ code' : List ℕ} (v x : ℕ) → v ≡ (pattern_fields word).v → x ≡ (pattern_fields word).x → form ≡ 0 → Does (emit row (Decode (as_object v))) 1 0 e code e₁ code₁
        → Does (emit row (Decrypt (as_object x))) 1 0 e₁ code₁ e₂ code₂ → Matches rows child e₂ code₂ e' code' → Matches rows row e code e' code'
    unfolding size
    encryption_done v x variable key plain k l m =
        let s = size_positive (pattern_in rows child) in
        as_row compile↓ rows row (encryption row v (plain_key x) (pattern_in rows child)) (encryption_row asked.standing child first five ∙ rw (variable, key, sym read ∙ plain))
        (does_le (omega arith) (omega arith) (does_seq k (does_seq l m)))

    -- only a plain key opens
    pub encryption_wrong : (form ≡ 0 → ⊥) → Quiet (λ env. refuse (WrongKind row)) 0 e e' → Matches rows row e code e' code
    encryption_wrong other k = by (pattern_fields word).f refl
      where
        by : (f : ℕ) → (pattern_fields word).f ≡ f → Matches rows row e code e' code
        by zero h = absurd (other (read ∙ h))
        by (suc zero) h = as_row compile↓ rows row (encryption row (pattern_fields word).v (op_key (pattern_fields word).x (pattern_fields word).y)
            (pattern_in rows child)) (encryption_row asked.standing child first five ∙ rw h) (does_le (omega arith) (omega arith) (k.does code))
        by (suc (suc zero)) h = as_row compile↓ rows row (encryption row (pattern_fields word).v
            (certified_key (pattern_fields word).x (pattern_fields word).y) (pattern_in rows child)) (encryption_row asked.standing child first five ∙ rw h)
            (does_le (omega arith) (omega arith) (k.does code))
        by (suc (suc (suc f))) h = absurd (omega (arith, encryption_key asked.standing five))

-- let r = p1 in p2
module _ (rows : List ℕ) (row word : ℕ) {e : Emission} (asked : RowAt rows row word e) (nine : (pattern_fields word).tag ≡ 9)
    (child : ℕ) (first : child ≡ get_or (pattern_fields word).slots 0 0) (other : ℕ) (second : other ≡ get_or (pattern_fields word).slots 1 0) where
  -- room for the second child, and then for the first
  module _ {e₁ : Emission} {r : ℕ} (freed : Quiet (free_raw row r) 0 e e₁) where
    pub let_second : Row rows other e₁
    let_second =
        row_below rows row other asked.standing.stands (let_children asked.standing child first other second nine).1
        (room_then (omega arith) (omega arith) (let_room asked child first other second nine) (freed.does []))

    module _ {code : List ℕ} {e₂ : Emission} {code₂ : List ℕ} (walked : Matches rows other e₁ code e₂ code₂) where
      pub let_loads : RoomFor 1 0 e₂
      let_loads = room_then (omega arith) (omega arith) (let_room asked child first other second nine) (does_seq (freed.does code) walked)

      module _ {e₃ : Emission} {code₃ : List ℕ} (loaded : Does (emit row (Load (named r))) 1 0 e₂ code₂ e₃ code₃) where
        pub let_first : Row rows child e₃
        let_first =
            row_below rows row child asked.standing.stands (let_children asked.standing child first other second nine).0
            (room_then (omega arith) (omega arith) (let_room asked child first other second nine) (does_seq (freed.does code) (does_seq walked loaded)))

        pub let_done : r ≡ (pattern_fields word).r → {e' : Emission} {code' : List ℕ} → Matches rows child e₃ code₃ e' code' → Matches rows row e code e' code'
        unfolding size
        let_done h m =
            let s = size_positive (pattern_in rows child) in
            let t = size_positive (pattern_in rows other) in
            as_row compile↓ rows row (let_in row r (pattern_in rows child) (pattern_in rows other)) (let_row asked.standing child first other second nine ∙ rw h)
            (does_le (omega arith) (omega arith) (does_free freed (does_seq walked (does_seq loaded m))))

-- the parts of a tuple: LOAD, and then the part's code
abbrev loads : Pattern → ℕ → ℕ → Env → Emitted
loads p row r = emit row (LOAD (scratch r)) then compile↓ p

pub in_turn_lem : InTurn loads compile↓parts
in_turn_lem =
    record {
      none = λ row r env. refl;
      more = λ p ps row r env. sym (then_assoc (emit row (LOAD (scratch r)) env) (compile↓ p) (compile↓parts ps row (suc r)));
    }

module _ (rows : List ℕ) (row : ℕ) (parts : List Part) {e₀ : Emission} (asked : PartsAt rows row parts e₀) {code₀ : List ℕ} (k : ℕ) {e : Emission} {code : List ℕ}
    (walked : Walked compile↓parts rows row parts e₀ code₀ k e code) (less : k < length parts) where
  room : RoomFor (8 * size (pattern_in rows (part_at parts k).child)) (most_scratches (pattern_in rows (part_at parts k).child)) e
  room = part_room in_turn_lem rows row parts asked k walked less

  pub part_loads : RoomFor 1 0 e
  part_loads = room_le (omega (arith, size_positive (pattern_in rows (part_at parts k).child))) (omega arith) room

  module _ {s : Raw} {e₁ : Emission} {code₁ : List ℕ} (made : s ≡ scratch (part_at parts k).scratch) (loaded : Does (emit row (Load s)) 1 0 e code e₁ code₁) where
    pub part_asks : Row rows (part_at parts k).child e₁
    part_asks =
        part_row in_turn_lem rows row parts asked k walked less
        (room_then (omega (arith, size_positive (pattern_in rows (part_at parts k).child))) (omega arith) room loaded)

    pub part_done : {e₂ : Emission} {code₂ : List ℕ} → Matches rows (part_at parts k).child e₁ code₁ e₂ code₂ → Walked compile↓parts rows row parts e₀ code₀ (k + 1) e₂ code₂
    part_done m =
        let l : Does (emit row (LOAD (scratch (part_at parts k).scratch))) 1 0 e code e₁ code₁ = rw made at loaded in
        parts_next in_turn_lem rows row parts asked k walked less (does_le (omega (arith, size_positive (pattern_in rows (part_at parts k).child))) (omega arith) (does_seq l m))

-- t : [p1 .. pn]
module _ (rows : List ℕ) (row word : ℕ) {e : Emission} (asked : RowAt rows row word e) (eight : (pattern_fields word).tag ≡ 8) (n : ℕ) (counted : n ≡ (pattern_fields word).n) where
  -- room for ANALYZE TUPLE, once its scratch numbers are taken
  pub tuple_analyzes : {f : Env → Emitted} {code : List ℕ} {e₁ : Emission} {code₁ : List ℕ} {e₂ : Emission} → Does f 1 0 e code e₁ code₁ → Quiet (raise n) n e₁ e₂ → RoomFor 1 0 e₂
  tuple_analyzes decoded taken =
      let slots = (pattern_fields word).slots in
      let parts = front n (parts_from slots 0) in
      let room = tuple_room rows row word asked eight n counted slots refl 0 parts refl in
      let c = count_sizes (parts_in rows parts 0) in
      let d = tuple_counts rows row word asked eight n counted slots refl 0 parts refl in
      record {
        place = omega (arith, room.place, decoded.place, taken.place);
        free = omega (arith, room.free, decoded.free, taken.free);
      }

  pub tuple_done : (slots : List ℕ) (got : slots ≡ (pattern_fields word).slots) (first : ℕ) (parts : List Part) (made : parts ≡ front n (parts_from slots first))
      (t : ℕ) (s : Raw) → t ≡ (pattern_fields word).v → s ≡ scratch first
      → {e₁ e₂ e₃ : Emission} {code code₁ code₃ : List ℕ} {e' : Emission} {code' : List ℕ} → Does (emit row (Decode (as_object t))) 1 0 e code e₁ code₁ → first ≡ e₁.next → Quiet (raise n) n e₁ e₂
      → Does (emit row (AnalyzeTuple (as_object t) s n)) 1 0 e₂ code₁ e₃ code₃ → MatchesParts rows row parts e₃ code₃ e' code' → Matches rows row e code e' code'
  unfolding size
  tuple_done slots got first parts made t s variable cell {e₁} {e₂} {e₃} {code} {code₁} {code₃} {e'} {code'} decoded next taken analyzed m =
      let ps = parts_in rows parts 0 in
      let here : s ≡ scratch e₁.next = cell ∙ ap scratch next in
      let c = count_sizes ps in
      let d = tuple_counts rows row word asked eight n counted slots got first parts made in
      let l : Does (emit row (ANALYZE_TUPLE t (scratch e₁.next) n)) 1 0 e₂ code₁ e₃ code₃ = rw here at analyzed in
      let k : Does (compile↓parts ps row e₁.next) (words_of ps) (scratches_of ps) e₃ code₃ e' code' =
      rw next at (parts_first rows row word asked eight n counted slots got first parts made in_turn_lem m) in
      as_row compile↓ rows row (tuple row t ps) (tuple_is rows row word asked eight n counted slots got first parts made ∙ rw variable)
      (subst (λ (x : ℕ). Does (emit row (DECODE t) then take x (λ rˢ. emit row (ANALYZE_TUPLE t (scratch rˢ) x) then compile↓parts ps row rˢ))
      (most_words (tuple row t ps)) (most_scratches (tuple row t ps)) e code e' code') (sym d)
      (does_le (omega arith) (omega arith)
      (does_seq decoded (does_take (λ rˢ. emit row (ANALYZE_TUPLE t (scratch rˢ) n) then compile↓parts ps row rˢ) taken (does_seq l k)))))
