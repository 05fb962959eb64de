-- The ends agree with the words, and the limits of a role's words.
use mathlib.Core.Path.{◌≡◌, refl, ◌∙◌, ap}
use mathlib.Core.Bool.{Bool, true, not}
use mathlib.Core.List.{List, [], ◌∷◌, ◌++◌, append_assoc}
use Prim.Native.Nat.{ℕ, zero, suc, ◌+◌, ◌-◌, ◌*◌, ◌<◌, ◌≤◌}
use native.Mathlib.Nat.{zero-add}
use native.Mathlib.Omega.{arith}
use borrow.Author.Tests.{le-leb}
use lib.Dec.{ltb}
use lib.ListN.{length, get_or, take, drop, length-append}
use lib.Seq.{take-suc, split_at, take-append_seam, drop-append_seam}
use Rattle.word.specs.All.{All}
use Rattle.word.proofs.TestLaws.{is_below, is_true}
use Rattle.theory.specs.Emission.{Env, Emitted, ok, refuse}
use Rattle.calls.specs.Compile.{code_words}
use Rattle.calls.specs.Half.{half}
use Rattle.calls.specs.Frame.{output_word}
use Rattle.calls.specs.Role.{Halves, compiled, refused_in, after_halves, again, half_then, halves_from, rounds_of, in_turn, ends_from, round_start, is_round, round_part}
use Rattle.calls.proofs.HalfLaws.{half_words}
use Rattle.calls.proofs.RoleLaws.{turn_append, turn_one, rounds_words, ends_length}

-- the words up to the end of a round
ends_at : (start : ℕ) (rounds : List (List ℕ)) (i : ℕ) → i < length rounds → get_or (ends_from start rounds) i 0 ≡ start + length (in_turn (take (suc i) rounds))
unfolding ends_from in_turn
ends_at start [] i less = absurd (omega arith)
ends_at start (round ∷ rounds) zero less = omega (arith, length-append round [])
ends_at start (round ∷ rounds) (suc i) less =
    ends_at (start + length round) rounds i (omega arith) ∙ (omega (arith, length-append round (in_turn (take (suc i) rounds))))

module _ (rounds : List (List ℕ)) (rest : List ℕ) (i : ℕ) (inside : i < length rounds) where
  abbrev earlier : List ℕ
  earlier = in_turn (take i rounds)

  abbrev round : List ℕ
  round = get_or rounds i []

  abbrev later : List ℕ
  later = in_turn (drop (suc i) rounds) ++ rest

  ends_here : get_or (ends_from 0 rounds) i 0 ≡ length earlier + length round
  ends_here =
      ends_at 0 rounds i inside ∙ zero-add _
      ∙ ap (λ (r : List (List ℕ)). length (in_turn r)) (take-suc rounds i [] inside)
      ∙ ap length (turn_append (take i rounds) (round ∷ []) ∙ ap (earlier ++◌) (turn_one round))
      ∙ length-append earlier round

  starts_here : round_start (ends_from 0 rounds) i ≡ length earlier
  unfolding round_start in_turn
  starts_here = by i inside
    where
      by : (j : ℕ) → j < length rounds → round_start (ends_from 0 rounds) j ≡ length (in_turn (take j rounds))
      by zero less = refl
      by (suc j) less = ends_at 0 rounds j (omega arith) ∙ zero-add _

  parted : in_turn rounds ++ rest ≡ earlier ++ (round ++ later)
  unfolding in_turn
  parted =
      ap (λ (r : List (List ℕ)). in_turn r ++ rest) (split_at rounds i [] inside)
      ∙ ap (◌++ rest) (turn_append (take i rounds) (round ∷ drop (suc i) rounds))
      ∙ append_assoc earlier (round ++ in_turn (drop (suc i) rounds)) rest
      ∙ ap (earlier ++◌) (append_assoc round (in_turn (drop (suc i) rounds)) rest)

  is_round_lem : is_round (in_turn rounds ++ rest) (ends_from 0 rounds) i ≡ true
  unfolding is_round
  is_round_lem =
      rw (
        is_true (ltb i (length (ends_from 0 rounds))) ((is_below i (length (ends_from 0 rounds))).1 (omega (arith, inside, ends_length 0 rounds))),
        starts_here,
        ends_here,
        le-leb (length earlier) (length earlier + length round) (omega arith),
        le-leb (length earlier + length round) (length (in_turn rounds ++ rest)) (omega (arith, ap length parted, length-append earlier (round ++ later), length-append round later)),
      )

  -- the part of a round is the round
  pub round_parted : round_part (in_turn rounds ++ rest) (ends_from 0 rounds) i ≡ round
  unfolding round_part
  round_parted =
      let long : length earlier + length round - length earlier ≡ length round = omega arith in
      rw (is_round_lem, starts_here, ends_here, long, parted, drop-append_seam earlier (round ++ later)) (take-append_seam round later)

-- every half has at most 767 words
pub record FewHalves (counts : List ℕ) (halves : List (List ℕ)) : Type 0 where
  pub count : length halves ≡ length counts
  pub each : All (λ words. length words ≤ 767) halves

few_cons : {count : ℕ} {counts words : List ℕ} {halves more : List (List ℕ)} → length words ≤ 767 → halves ≡ (words ∷ []) ++ more → FewHalves counts more → FewHalves (count ∷ counts) halves
few_cons few split rest = rw split (record { count = omega (arith, rest.count); each = (few, rest.each) })

pub few_halves : (n : ℕ) (create : Bool) (kinds counts rows : List ℕ) (e : Env) (halves : List (List ℕ)) → e.next ≡ 0 → halves_from n create kinds counts rows e ≡ compiled halves
    → FewHalves counts halves
unfolding halves_from half_then after_halves
few_halves n create kinds [] rows e [] fresh h = record { count = refl; each = tt }
few_halves n create kinds [] rows e (words ∷ halves) fresh h = absurd (let z : ◌≡◌ {A = ℕ} 0 1 = cc in omega arith)
few_halves n create kinds (count ∷ counts) rows e halves fresh h =
    by (half create (take count rows) kinds e) refl h
    (λ e' more. few_halves (suc n) (not create) kinds counts (drop count rows) (again e') more refl)
  where
    by : (E : Emitted) → half create (take count rows) kinds e ≡ E → half_then n E (λ e'. halves_from (suc n) (not create) kinds counts (drop count rows) e') ≡ compiled halves
        → ((e' : Env) (more : List (List ℕ)) → halves_from (suc n) (not create) kinds counts (drop count rows) (again e') ≡ compiled more → FewHalves counts more) → FewHalves (count ∷ counts) halves
    by (refuse answer) q g rest = absurd (let z : ◌≡◌ {A = ℕ} 0 1 = cc in omega arith)
    by (ok lines e') q g rest = behind (halves_from (suc n) (not create) kinds counts (drop count rows) (again e')) refl g
      where
        behind : (H : Halves) → halves_from (suc n) (not create) kinds counts (drop count rows) (again e') ≡ H → after_halves (code_words lines ∷ []) H ≡
            compiled halves → FewHalves (count ∷ counts) halves
        behind (refused_in m answer) p g = absurd (let z : ◌≡◌ {A = ℕ} 0 1 = cc in omega arith)
        behind (compiled more) p g =
            let split : halves ≡ (code_words lines ∷ []) ++ more = cc in
            few_cons {words = code_words lines} (half_words create (take count rows) kinds e fresh lines e' q) split (rest e' more p)

-- a round has at most 1,536 words
pub few_rounds : (k : ℕ) (halves : List (List ℕ)) → length halves ≡ k + k → All (λ words. length words ≤ 767) halves → All (λ words. length words ≤ 1536) (rounds_of halves)
unfolding rounds_of
few_rounds k [] even all = tt
few_rounds zero (match ∷ halves) even all = absurd (omega arith)
few_rounds (suc k) (match ∷ []) even all = tt
few_rounds (suc k) (match ∷ create ∷ halves) even all = (
  omega (arith, all.0, all.1.0, length-append (match ++ create) (output_word ∷ []), length-append match create),
  few_rounds k halves (omega arith) all.1.1,
)

words_few : (halves : List (List ℕ)) → All (λ words. length words ≤ 767) halves → length (in_turn halves) ≤ 767 * length halves
unfolding in_turn
words_few [] all = omega arith
words_few (words ∷ halves) all = omega (arith, all.0, words_few halves all.1, length-append words (in_turn halves))

-- a role of 16 rounds has at most 24,576
pub few_words : (k : ℕ) (halves : List (List ℕ)) → k ≤ 16 → length halves ≡ k + k → All (λ words. length words ≤ 767) halves → length (in_turn (rounds_of halves)) ≤ 24576
few_words k halves most even all = omega (arith, rounds_words k halves even, words_few halves all)
