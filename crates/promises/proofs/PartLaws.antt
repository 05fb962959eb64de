-- The bytes between the ends that a role leaves are the words of its rounds.
use Prim.Native.Nat.{ℕ, zero, suc, ◌+◌, ◌-◌, ◌*◌, ◌^◌, ◌<◌, ◌≤◌}
use mathlib.Core.Path.{◌≡◌, sym, ◌∙◌, ap}
use mathlib.Core.Bool.{Bool, true, false, cond}
use mathlib.Core.List.{List, [], ◌∷◌, ◌++◌, map}
use native.Mathlib.Omega.{arith}
use lib.Dec.{T}
use lib.ListN.{length, get_or, take, drop, length-append, length-drop, take-append-drop, length-map}
use lib.Seq.{length-take-le, take_at, drop_at}
use Rattle.word.specs.Bytes.{spelled}
use Rattle.word.proofs.TestLaws.{both, is_below, at_most}
use Rattle.word.proofs.ByteLaws.{Below, length_spelled, spelled_append}
use Rattle.numbers.specs.Kinds.{kind_in}
use Rattle.theory.specs.Emission.{Env}
use Rattle.calls.specs.Frame.{output_word}
use Rattle.calls.specs.Role.{in_turn, ends_from, round_start, is_round, round_part}
use Rattle.calls.proofs.EndsLaws.{round_parted}
use Rattle.promises.specs.Halves.{RoundHalves, round_words, RoundCode, RoleCode}
use Rattle.promises.specs.RolesForC.{part_bytes}
use Rattle.promises.proofs.ForC.{words_below}
use Rattle.promises.proofs.HalvesLaws.{half_good}
use Rattle.promises.proofs.RoundDecisionLaws.{carried_start, next_start}

-- WORDS OF 32 BITS, ENDS OF 16

below_append : (limit : ℕ) (first later : List ℕ) → Below limit first → Below limit later → Below limit (first ++ later)
below_append limit [] later f l place = l place
below_append limit (value ∷ first) later f l zero = f zero
below_append limit (value ∷ first) later f l (suc place) = below_append limit first later (λ p. f (suc p)) l place

round_below : {kinds : List ℕ} {set next : Env} {r : RoundHalves} → RoundCode kinds set r next → set.next ≡ 0 → Below (256 ^ 4) (round_words r)
round_below c start zero = omega arith
round_below {kinds} {r = r} c start (suc place) =
    below_append (256 ^ 4) (r.first ++ r.second) (output_word ∷ [])
    (below_append (256 ^ 4) r.first r.second (words_below {kind = kind_in kinds} r.first (half_good c.matches start))
    (words_below {kind = kind_in kinds} r.second (half_good c.creates (carried_start c start))))
    output place
  where
    output : Below (256 ^ 4) (output_word ∷ [])
    output zero = omega arith
    output (suc p) = omega arith

pub role_below : {kinds : List ℕ} {set : Env} {rounds : List RoundHalves} → set.next ≡ 0 → RoleCode kinds set rounds → (i : ℕ)
    → Below (256 ^ 4) (get_or (map round_words rounds) i [])
role_below start RoleCode.none i place = omega arith
role_below start (RoleCode.more c rest) zero place = round_below c start place
role_below start (RoleCode.more c rest) (suc i) place = role_below (next_start c start) rest i place

pub ends_below : (limit start : ℕ) (rounds : List (List ℕ)) → 0 < limit → start + length (in_turn rounds) < limit → Below limit (ends_from start rounds)
unfolding ends_from in_turn
ends_below limit start [] some few place = some
ends_below limit start (round ∷ rounds) some few zero = omega (arith, few, length-append round (in_turn rounds))
ends_below limit start (round ∷ rounds) some few (suc place) =
    ends_below limit (start + length round) rounds some (omega (arith, few, length-append round (in_turn rounds))) place

-- BYTES BETWEEN ENDS

-- of words that stand between others
between_others : (size : ℕ) (earlier part later : List ℕ)
    → take (size * length part) (drop (size * length earlier) (spelled size (earlier ++ (part ++ later)))) ≡ spelled size part
between_others size earlier part later =
    ap (λ bytes. take (size * length part) (drop (size * length earlier) bytes)) (spelled_append size earlier (part ++ later))
    ∙ ap (take (size * length part)) (drop_at (spelled size earlier) (spelled size (part ++ later)) (size * length earlier) (length_spelled size earlier)
    ∙ spelled_append size part later)
    ∙ take_at (spelled size part) (spelled size later) (size * length part) (length_spelled size part)

part_spelled : (size : ℕ) (all : List ℕ) (start count : ℕ) → start + count ≤ length all
    → take (size * count) (drop (size * start) (spelled size all)) ≡ spelled size (take count (drop start all))
part_spelled size all start count inside =
    let earlier = take start all in
    let part = take count (drop start all) in
    let later = drop count (drop start all) in
    let here : length earlier ≡ start = length-take-le start all (omega arith) in
    let long : length part ≡ count = length-take-le count (drop start all) (omega (arith, length-drop start all)) in
    let cut : earlier ++ (part ++ later) ≡ all = ap (earlier ++◌) (take-append-drop count (drop start all)) ∙ take-append-drop start all in
    (λ i. take (size * sym long i) (drop (size * sym here i) (spelled size (sym cut i)))) ∙ between_others size earlier part later

-- a part with words lies within the code
module _ (code ends : List ℕ) (i : ℕ) where
  abbrev start : ℕ
  start = round_start ends i

  abbrev end : ℕ
  end = get_or ends i 0

  within : T (is_round code ends i) → (start ≤ end) × (end ≤ length code)
  unfolding is_round
  within t = let w = simp (both, is_below, at_most) at t in (w.0.1, w.1)

  part_bytes_lem : 0 < length (round_part code ends i) → part_bytes (spelled 4 code) ends i ≡ spelled 4 (round_part code ends i)
  unfolding round_part
  part_bytes_lem = go (is_round code ends i) within
    where
      part : Bool → List ℕ
      part is = cond is (take (end - start) (drop start code)) []

      go : (is : Bool) → (T is → (start ≤ end) × (end ≤ length code)) → 0 < length (part is) → part_bytes (spelled 4 code) ends i ≡ spelled 4 (part is)
      go true inside some = let w = inside tt in part_spelled 4 code start (end - start) (omega (arith, w.0, w.1))
      go false inside some = absurd (omega arith)

-- a round has words, INPUT first
some_words : (rounds : List RoundHalves) (i : ℕ) → i < length rounds → 0 < length (get_or (map round_words rounds) i [])
some_words [] i inside = absurd (omega arith)
some_words (r ∷ rounds) zero inside = omega arith
some_words (r ∷ rounds) (suc i) inside = some_words rounds i (omega arith)

pub round_bytes : (rounds : List RoundHalves) (rest : List ℕ) (i : ℕ) → i < length rounds
    → part_bytes (spelled 4 (in_turn (map round_words rounds) ++ rest)) (ends_from 0 (map round_words rounds)) i ≡ spelled 4 (get_or (map round_words rounds) i [])
round_bytes rounds rest i inside =
    let is = round_parted (map round_words rounds) rest i (rw length-map inside) in
    part_bytes_lem (in_turn (map round_words rounds) ++ rest) (ends_from 0 (map round_words rounds)) i (rw is (some_words rounds i inside)) ∙ ap (spelled 4) is
