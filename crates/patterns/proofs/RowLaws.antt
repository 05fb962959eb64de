-- The fields of any word.
use Prim.Native.Nat.{ℕ, zero, suc, ◌<◌, min}
use mathlib.Core.Path.{◌≡◌, refl}
use mathlib.Core.List.{List}
use native.Mathlib.Omega.{arith}
use lib.ListN.{length, get_or, take, length-take}
use Rattle.std.proofs.lemmas.List.{take_min}
use lib.Seq.{get_or-take}
use Rattle.patterns.specs.Row.{pattern_fields, children_of}

pub slots_four : (word : ℕ) → length (pattern_fields word).slots ≡ 4
unfolding pattern_fields
slots_four word = refl

pub slot_below : (word slot : ℕ) → get_or (pattern_fields word).slots slot 0 < 128
unfolding pattern_fields
slot_below word zero = omega arith
slot_below word (suc zero) = omega arith
slot_below word (suc (suc zero)) = omega arith
slot_below word (suc (suc (suc zero))) = omega arith
slot_below word (suc (suc (suc (suc slot)))) = omega arith

pub raw_below : (word : ℕ) → (pattern_fields word).r < 64
unfolding pattern_fields
raw_below word = omega arith

pub byte_below : (word : ℕ) → (pattern_fields word).x < 256
unfolding pattern_fields
byte_below word = omega arith

pub children_count : (word : ℕ) → length (children_of word) ≡ min (pattern_fields word).n 4
unfolding pattern_fields
children_count word = length-take (pattern_fields word).n (pattern_fields word).slots

-- a child stands in its slot
pub child_slot : (word slot : ℕ) → slot < length (children_of word) → get_or (children_of word) slot 0 ≡ get_or (pattern_fields word).slots slot 0
child_slot word slot inside = get_or-take (pattern_fields word).n (pattern_fields word).slots slot 0 (omega (arith, children_count word))

pub child_below : (word slot : ℕ) → slot < length (children_of word) → get_or (children_of word) slot 0 < 128
child_below word slot inside = rw (child_slot word slot inside) (slot_below word slot)

-- as many slots as there are children
pub children_taken : (word n : ℕ) {slots : List ℕ} → slots ≡ (pattern_fields word).slots → n ≡ length (children_of word) → take n slots ≡ children_of word
children_taken word n is count = let row = pattern_fields word in rw (is, count, length-take row.n row.slots) (take_min row.n row.slots)
