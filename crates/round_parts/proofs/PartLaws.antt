-- Where a round starts, and its part of the code.
use mathlib.Core.Path.{◌≡◌, refl, ◌∙◌}
use mathlib.Core.Bool.{true, false, ◌&&◌}
use mathlib.Core.List.{List, []}
use Prim.Native.Nat.{ℕ, zero, suc, ◌+◌, ◌-◌, ◌*◌, ◌<◌, ◌≤◌}
use native.Mathlib.Nat.{zero-add}
use native.Mathlib.Omega.{arith}
use lib.Dec.{leb, ltb}
use lib.ListN.{length, get_or, take, drop}
use Rattle.word.proofs.TestLaws.{both, at_most, is_below, is_true, is_false}
use Rattle.calls.specs.Role.{round_start, is_round, round_part, round_place}

-- where a round starts
pub start_first : (ends : List ℕ) {round : ℕ} → round ≡ 0 → 0 ≡ round_start ends round
unfolding round_start
start_first ends e = rw e

pub start_later : (ends : List ℕ) (round : ℕ) → (round ≡ 0 → ⊥) → get_or ends (round - 1) 0 ≡ round_start ends round
unfolding round_start
start_later ends zero other = absurd (other refl)
start_later ends (suc round) other = let e : suc round - 1 ≡ round = omega arith in rw e

-- the part of a round, and where it stands
module _ (code ends : List ℕ) (round : ℕ) where
  pub no_round : is_round code ends round ≡ false → (p : ℕ × ℕ) → ([] ≡ round_part code ends round) × (p ≡ (p.0, round_place code ends round * 4 + p.1))
  unfolding round_part round_place
  no_round e p = rw e (refl, rw zero-add)

  pub past_ends : length ends ≤ round → is_round code ends round ≡ false
  unfolding is_round
  past_ends past = rw (is_false (ltb round (length ends)) (λ h. omega (arith, (is_below round (length ends)).0 h)))

  module _ (inside : round < length ends) {start : ℕ} (starts : start ≡ round_start ends round) where
    in_order : is_round code ends round ≡ (leb start (get_or ends round 0) && leb (get_or ends round 0) (length code))
    unfolding is_round
    in_order = rw (is_true (ltb round (length ends)) ((is_below round (length ends)).1 inside), starts)

    pub out_of_order : (leb start (get_or ends round 0) && leb (get_or ends round 0) (length code)) ≡ false → is_round code ends round ≡ false
    out_of_order e = in_order ∙ e

    pub within : (leb start (get_or ends round 0) && leb (get_or ends round 0) (length code)) ≡ true → (start ≤ get_or ends round 0) × (get_or ends round 0 ≤ length code)
    within e =
        let h = (both (leb start (get_or ends round 0)) (leb (get_or ends round 0) (length code))).0 (rw e tt) in
        ((at_most start (get_or ends round 0)).0 h.0, (at_most (get_or ends round 0) (length code)).0 h.1)

    pub a_round : (leb start (get_or ends round 0) && leb (get_or ends round 0) (length code)) ≡ true → (p : ℕ × ℕ)
        → (take (get_or ends round 0 - start) (drop start code) ≡ round_part code ends round) × (◌≡◌ {A = ℕ × ℕ} (p.0, start * 4 + p.1) (p.0, round_place code ends round * 4 + p.1))
    unfolding round_part round_place
    a_round e p = rw (in_order ∙ e, starts) (refl, refl)
