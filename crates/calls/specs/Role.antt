-- A role's answer: the call's own 1; then half by half its own 1, 3, 4, 5, then 6 and 7 by emission; last 8 for the whole.
use Rattle.std.specs.Prelude.{ℕ, zero, suc, ◌+◌, ◌-◌, ◌/◌, ◌%◌, Bool, false, cond, not, ◌&&◌, List, [], ◌∷◌, ◌++◌, length, get_or, take, drop, eqb, leb, ltb}
use Rattle.numbers.specs.Limits.{variables, most_rounds}
use Rattle.answers.specs.declared.Compiled.{Compiled}
use Rattle.answers.specs.declared.Compiled.TheVariants.{Done, Limit, CodeTooShort}
use Rattle.theory.specs.Emission.{Env, Emitted, ok, refuse}
use Rattle.calls.specs.Compile.{entry, code_words}
use Rattle.calls.specs.Half.{half}
use Rattle.calls.specs.Frame.{framed}

-- what is lent to be read: all pattern rows, half after half, and of each half the count of its rows
pub record RoleLent : Type 0 where
  pub rows : List ℕ
  pub counts : List ℕ
  pub kinds : List ℕ
  pub objects : List ℕ
  pub named : List ℕ

-- the words of each half, or the half that refuses and its answer
pub data Halves : Type 0 where
  compiled : List (List ℕ) → Halves
  refused_in : ℕ → Compiled → Halves

-- halves that are compiled, in front of the rest
unfoldable pub after_halves : List (List ℕ) → Halves → Halves
after_halves done (compiled halves) = compiled (done ++ halves)
after_halves done (refused_in n answer) = refused_in n answer

-- the cells stay set for the next half; its scratch starts again
abbrev pub again : Env → Env
again e = record { objects = e.objects; raws = e.raws; next = 0 }

unfoldable pub half_then : ℕ → Emitted → (Env → Halves) → Halves
half_then n (ok lines e) next = after_halves (code_words lines ∷ []) (next (again e))
half_then n (refuse answer) next = refused_in n answer

-- the halves from number n on: each takes its rows from the front, and matching and creating alternate
unfoldable pub halves_from : ℕ → Bool → List ℕ → List ℕ → List ℕ → Env → Halves
halves_from n create kinds [] rows e = compiled []
halves_from n create kinds (count ∷ counts) rows e =
    half_then n (half create (take count rows) kinds e) (λ e'. halves_from (suc n) (not create) kinds counts (drop count rows) e')

-- two halves are a round
unfoldable pub rounds_of : List (List ℕ) → List (List ℕ)
rounds_of [] = []
rounds_of (match ∷ []) = []
rounds_of (match ∷ create ∷ halves) = framed (match ++ create) ∷ rounds_of halves

-- words one after another
unfoldable pub in_turn : List (List ℕ) → List ℕ
in_turn [] = []
in_turn (words ∷ rest) = words ++ in_turn rest

-- the words up to the end of each round
unfoldable pub ends_from : ℕ → List (List ℕ) → List ℕ
ends_from start [] = []
ends_from start (round ∷ rounds) = (start + length round) ∷ ends_from (start + length round) rounds

unfoldable pub sum : List ℕ → ℕ
sum [] = 0
sum (n ∷ ns) = n + sum ns

-- the answer and the refusing half, and what is lent to be written afterwards
pub record RoleOutcome : Type 0 where
  pub answer : Compiled
  pub half : ℕ
  pub ends : List ℕ
  pub code : List ℕ

module _ (ends code : List ℕ) where
  abbrev pub role_refused : ℕ → Compiled → RoleOutcome
  role_refused n answer = record { answer = answer; half = n; ends = ends; code = code }

  -- 8 where the words do not fit; words past the written ones stay
  abbrev pub role_written : List (List ℕ) → RoleOutcome
  role_written rounds =
      let words = in_turn rounds in
      cond (leb (length words) (length code))
      (record { answer = Done (length words); half = 0; ends = ends_from 0 rounds; code = words ++ drop (length words) code })
      (role_refused 0 (CodeTooShort (length words)))

  abbrev pub role_by : Halves → RoleOutcome
  role_by (compiled halves) = role_written (rounds_of halves)
  role_by (refused_in n answer) = role_refused n answer

  module _ (x : RoleLent) where
    -- the call's own 1: two halves a round and one end, and the counts' sum is the rows
    abbrev pub role_fits : Bool
    role_fits =
        eqb (length x.counts % 2) 0 && leb 1 (length x.counts / 2) && leb (length x.counts / 2) most_rounds
        && eqb (length x.kinds) variables && eqb (length x.objects) variables && eqb (length x.named) variables
        && eqb (length ends) (length x.counts / 2) && eqb (sum x.counts) (length x.rows)

    abbrev pub halves_of : Halves
    halves_of = halves_from 0 false x.kinds x.counts x.rows (entry x.objects x.named)

    unfoldable pub role : RoleOutcome
    role = cond role_fits (role_by halves_of) (role_refused 0 Limit)

-- where a round starts: at the end of the round before it
unfoldable pub round_start : List ℕ → ℕ → ℕ
round_start ends zero = 0
round_start ends (suc round) = get_or ends round 0

-- there is such a round, and its words lie in order within the code
unfoldable pub is_round : List ℕ → List ℕ → ℕ → Bool
is_round code ends round = ltb round (length ends) && leb (round_start ends round) (get_or ends round 0) && leb (get_or ends round 0) (length code)

-- a round's own words; empty where there is no such round
unfoldable pub round_part : List ℕ → List ℕ → ℕ → List ℕ
round_part code ends round =
    cond (is_round code ends round) (take (get_or ends round 0 - round_start ends round) (drop (round_start ends round) code)) []

-- their place in the code
unfoldable pub round_place : List ℕ → List ℕ → ℕ → ℕ
round_place code ends round = cond (is_round code ends round) (round_start ends round) 0
