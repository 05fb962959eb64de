-- A slice whose rest is filled with one value.
use Prim.Native.Nat.{ℕ, ◌-◌, ◌≤◌}
use mathlib.Core.Path.{◌≡◌, ap}
use mathlib.Core.List.{List, ◌++◌, append-nil}
use native.Mathlib.Omega.{arith}
use borrow.Rule.Slice.PartMut.{mid_of, put_mid}
use lib.ListN.{length, drop, replicate, length-append, length-drop, drop_of_length-le}
use lib.Seq.{length-take-le, take_at}

-- the front written, and the rest filled as a part of its own
pub rest_filled : (value at : ℕ) (first before : List ℕ) {middle last : List ℕ} → at ≤ length before → middle ≡ first ++ drop at before → length middle ≡ length before
    → last ≡ replicate (length (mid_of at (length middle - at) middle)) value
    → put_mid at (length middle - at) middle last ≡ first ++ replicate (length before - at) value
rest_filled value at first before {middle} {last} inside front long rest =
    let whole = simp (length-append, length-drop) at (ap length front) in
    let here : length first ≡ at = omega (arith, whole) in
    let left : length (drop at middle) ≡ length before - at = simp length-drop (rw long) in
    rw (
      rest,
      long,
      length-take-le (length before - at) (drop at middle) (omega arith),
      drop_of_length-le (drop at middle) {i = length before - at} (omega arith),
      append-nil,
      front,
      take_at first (drop at before) at here,
    )
