-- Rows with children of their own: an encryption and a let.
use Prim.Native.Nat.{ℕ}
use mathlib.Core.Path.{◌≡◌, sym, ◌∙◌}
use mathlib.Core.List.{List}
use native.Mathlib.Omega.{arith}
use lib.Dec.{lit≤}
use lib.ListN.{get_or}
use Rattle.numbers.specs.Sorts.{as_object}
use Rattle.code.specs.declared.Instruction.TheVariants.{Store, Decode, Encrypt}
use Rattle.patterns.specs.Pattern.{encryption, let_in, size}
use Rattle.patterns.specs.Row.{pattern_fields}
use Rattle.patterns.specs.Tree.{key_by}
use Rattle.patterns.proofs.PatternLaws.{size_positive}
use Rattle.theory.specs.Machine.{named}
use Rattle.theory.specs.Emission.{Env, Emitted, emit}
use Rattle.theory.specs.Compilers.{key_var}
use Rattle.knowing.specs.Meets.{Does, RoomFor}
use Rattle.patterns.specs.Standing.{pattern_in}
use Rattle.emission.specs.Budget.{most_words, most_scratches, Row, RowAt}
use Rattle.knowing.proofs.MeetsLaws.{does_le, does_seq}
use Rattle.emission.proofs.BudgetLaws.{as_row, room_le, room_then, row_below, encryption_room, let_room}
use Rattle.patterns.proofs.StandingLaws.{encryption_child, encryption_row, let_children, let_row}
use Rattle.creating.specs.Creates.{key_code, pattern_code, Creates}
use Rattle.creating.proofs.KeyLaws.{key_variable}
use Rattle.knowing.specs.declared.Emission.{Emission}

module _ (rows : List ℕ) (row word : ℕ) {e : Emission} (asked : RowAt rows row word e) where
  -- e : E(key, p)
  module _ (five : (pattern_fields word).tag ≡ 5) (child : ℕ) (first : child ≡ get_or (pattern_fields word).slots 0 0) where
    module _ {f : Env → Emitted} {code : List ℕ} {e₁ : Emission} {code₁ : List ℕ} (keyed : Does f 3 0 e code e₁ code₁) where
      pub encryption_inside : Row rows child e₁
      encryption_inside = row_below rows row child asked.standing.stands (encryption_child asked.standing child first five)
          (room_then (omega arith) (omega arith) (encryption_room asked child first five) keyed)

      module _ {g : Env → Emitted} {e₂ : Emission} {code₂ : List ℕ} (made : Does g (most_words (pattern_in rows child)) (most_scratches (pattern_in rows child)) e₁ code₁ e₂ code₂) where
        after_inside : RoomFor 2 0 e₂
        after_inside = room_then (omega arith) (omega arith) (encryption_room asked child first five) (does_seq keyed made)

        pub encrypt_room : RoomFor 1 0 e₂
        encrypt_room = room_le (lit≤ tt) (lit≤ tt) after_inside

        pub seal_room : {h : Env → Emitted} {e₃ : Emission} {code₃ : List ℕ} → Does h 1 0 e₂ code₂ e₃ code₃ → RoomFor 1 0 e₃
        seal_room encrypted = room_then (lit≤ tt) (lit≤ tt) after_inside encrypted

    pub encryption_done : (kinds : List ℕ) (v x : ℕ) → v ≡ (pattern_fields word).v → x ≡ (pattern_fields word).x → {code : List ℕ} {e₁ : Emission} {code₁ : List ℕ} {e₂ : Emission} {code₂ : List ℕ} {e₃ : Emission} {code₃ : List ℕ} {e₄ : Emission} {code₄ : List ℕ}
        → Does (key_code kinds row (key_by (pattern_fields word))) 3 0 e code e₁ code₁ → Creates rows kinds child e₁ code₁ e₂ code₂
        → Does (emit row (Encrypt (as_object x))) 1 0 e₂ code₂ e₃ code₃ → Does (emit row (Decode (as_object v))) 1 0 e₃ code₃ e₄ code₄ → Creates rows kinds row e code e₄ code₄
    unfolding key_code pattern_code size
    encryption_done kinds v x variable key {e₂ = e₂} {code₂ = code₂} {e₃ = e₃} {code₃ = code₃} {e₄ = e₄} {code₄ = code₄} k l m n =
        let same : x ≡ key_var (key_by (pattern_fields word)) = key ∙ sym (key_variable (pattern_fields word)) in
        let o : Does (emit row (Encrypt (as_object (key_var (key_by (pattern_fields word)))))) 1 0 e₂ code₂ e₃ code₃ = rw same at m in
        let p : Does (emit row (Decode (as_object (pattern_fields word).v))) 1 0 e₃ code₃ e₄ code₄ = rw variable at n in
        as_row (pattern_code kinds) rows row (encryption row (pattern_fields word).v (key_by (pattern_fields word)) (pattern_in rows child)) (encryption_row asked.standing child first five)
        (does_le (omega (arith, size_positive (pattern_in rows child))) (omega (arith, size_positive (pattern_in rows child))) (does_seq k (does_seq l (does_seq o p))))

  -- let r = p1 in p2
  module _ (nine : (pattern_fields word).tag ≡ 9) (child : ℕ) (first : child ≡ get_or (pattern_fields word).slots 0 0) (other : ℕ) (second : other ≡ get_or (pattern_fields word).slots 1 0) where
    pub let_first : Row rows child e
    let_first = row_below rows row child asked.standing.stands (let_children asked.standing child first other second nine).0
        (room_le (omega arith) (omega arith) (let_room asked child first other second nine))

    module _ {f : Env → Emitted} {code : List ℕ} {e₁ : Emission} {code₁ : List ℕ} (made : Does f (most_words (pattern_in rows child)) (most_scratches (pattern_in rows child)) e code e₁ code₁) where
      pub let_store : RoomFor 1 0 e₁
      let_store = room_then (omega arith) (omega arith) (let_room asked child first other second nine) made

      pub let_second : {g : Env → Emitted} {e₂ : Emission} {code₂ : List ℕ} → Does g 1 0 e₁ code₁ e₂ code₂ → Row rows other e₂
      let_second stored = row_below rows row other asked.standing.stands (let_children asked.standing child first other second nine).1
          (room_then (omega arith) (omega arith) (let_room asked child first other second nine) (does_seq made stored))

    pub let_done : (kinds : List ℕ) (r : ℕ) → r ≡ (pattern_fields word).r → {code : List ℕ} {e₁ : Emission} {code₁ : List ℕ} {e₂ : Emission} {code₂ : List ℕ} {e₃ : Emission} {code₃ : List ℕ} → Creates rows kinds child e code e₁ code₁
        → Does (emit row (Store (named r))) 1 0 e₁ code₁ e₂ code₂ → Creates rows kinds other e₂ code₂ e₃ code₃ → Creates rows kinds row e code e₃ code₃
    unfolding pattern_code size
    let_done kinds r raw {e₁ = e₁} {code₁ = code₁} {e₂ = e₂} {code₂ = code₂} k l m =
        let n : Does (emit row (Store (named (pattern_fields word).r))) 1 0 e₁ code₁ e₂ code₂ = rw raw at l in
        as_row (pattern_code kinds) rows row (let_in row (pattern_fields word).r (pattern_in rows child) (pattern_in rows other)) (let_row asked.standing child first other second nine)
        (does_le (omega arith) (omega arith) (does_seq k (does_seq n m)))
