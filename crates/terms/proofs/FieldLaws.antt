-- A row's fields by slot.
use Prim.Native.Nat.{ℕ, zero, suc, ◌+◌, ◌*◌, ◌-◌, ◌/◌, ◌%◌, ◌^◌, ◌<◌, ◌≤◌}
use mathlib.Core.Path.{◌≡◌, refl}
use mathlib.Core.List.{List, [], ◌∷◌}
use native.Mathlib.Omega.{arith}
use lib.ListN.{length, take, drop, get_or, length-take, get_or-eq_default}
use Rattle.word.specs.Fields.{split, at}
use Rattle.terms.specs.Shape.{tupled}
use Rattle.terms.specs.Row.{term_widths, tag_of, row_of}

-- a part stands 12 bits lower than the one before it
pub part_at : (word slot : ℕ) → slot < 4 → word / 2 ^ (36 - 12 * slot) % 4096 ≡ at (3 + slot) (split term_widths word)
part_at word zero h = refl
part_at word (suc zero) h = refl
part_at word (suc (suc zero)) h = refl
part_at word (suc (suc (suc zero))) h = refl
part_at word (suc (suc (suc (suc slot)))) h = absurd (omega arith)

-- past what is taken of a list there is nothing
pub past_taken : (n : ℕ) (parts : List ℕ) (slot : ℕ) → n ≤ slot → at slot (take n parts) ≡ 0
past_taken n parts slot h = get_or-eq_default (take n parts) 0 {n = slot} (omega (arith, length-take n parts))

-- the word of a tuple, part by part
pub tuple_fields : (parts : List ℕ)
    → row_of (tupled parts) ≡ 10 * 2 ^ 60 + length parts * 2 ^ 56 + at 0 parts * 2 ^ 36 + at 1 parts * 2 ^ 24 + at 2 parts * 2 ^ 12 + at 3 parts
unfolding row_of
tuple_fields [] = omega arith
tuple_fields (a ∷ []) = omega arith
tuple_fields (a ∷ b ∷ []) = omega arith
tuple_fields (a ∷ b ∷ c ∷ []) = omega arith
tuple_fields (a ∷ b ∷ c ∷ d ∷ rest) = omega arith

pub slot_below : (word slot : ℕ) → get_or (drop 3 (split term_widths word)) slot 0 < 4096
slot_below word zero = omega arith
slot_below word (suc zero) = omega arith
slot_below word (suc (suc zero)) = omega arith
slot_below word (suc (suc (suc zero))) = omega arith
slot_below word (suc (suc (suc (suc slot)))) = omega arith

pub tag_below : (word : ℕ) → tag_of word < 16
unfolding tag_of
tag_below word = omega arith
