-- A role's halves in turn: what is compiled so far, and what is left.
use mathlib.Core.Path.{◌≡◌, refl, sym, ◌∙◌, ap}
use mathlib.Core.Bool.{Bool, false, not}
use mathlib.Core.List.{List, [], ◌∷◌, ◌++◌, append-nil, append_assoc}
use Prim.Native.Nat.{ℕ, zero, suc, ◌+◌, ◌*◌, ◌<◌, ◌≤◌}
use native.Mathlib.Omega.{arith}
use lib.ListN.{length, get_or, take, drop, length-append, drop_of_length-le}
use lib.Seq.{drop-cons, drop-drop}
use Rattle.answers.specs.declared.Compiled.{Compiled}
use Rattle.theory.specs.Machine.{Line}
use Rattle.theory.specs.Emission.{Env, Emitted, ok, refuse}
use Rattle.calls.specs.Compile.{code_words}
use Rattle.calls.specs.Half.{half}
use Rattle.calls.specs.Frame.{output_word, framed}
use Rattle.calls.specs.Role.{Halves, compiled, refused_in, after_halves, again, half_then, halves_from, rounds_of, in_turn, ends_from, sum}
use Rattle.calls.proofs.CompileLaws.{NotDone}
use Rattle.calls.proofs.HalfLaws.{half_refuses, half_words}

-- halves that are compiled, in front of the rest
after_nil : (h : Halves) → after_halves [] h ≡ h
unfolding after_halves
after_nil (compiled halves) = refl
after_nil (refused_in n answer) = refl

after_after : (a b : List (List ℕ)) (h : Halves) → after_halves a (after_halves b h) ≡ after_halves (a ++ b) h
unfolding after_halves
after_after a b (compiled halves) = ap compiled (sym (append_assoc a b halves))
after_after a b (refused_in n answer) = refl

after_refused : (done : List (List ℕ)) (n : ℕ) (answer : Compiled) → after_halves done (refused_in n answer) ≡ refused_in n answer
unfolding after_halves
after_refused done n answer = refl

-- where they are all compiled, those in front are
pub after_compiled : (done : List (List ℕ)) (h : Halves) {halves : List (List ℕ)} → after_halves done h ≡ compiled halves → (more : List (List ℕ)) × (halves ≡ done ++ more)
unfolding after_halves
after_compiled done (compiled more) e = (more, cc)
after_compiled done (refused_in n answer) e = absurd (let z : ◌≡◌ {A = ℕ} 0 1 = cc in omega arith)

pub refused_compiled : {n : ℕ} {answer : Compiled} {halves : List (List ℕ)} {h : Halves} → h ≡ refused_in n answer → h ≡ compiled halves → ⊥
refused_compiled e f = let z : ◌≡◌ {A = ℕ} 0 1 = cc in omega arith

-- words in turn
pub turn_append : (a b : List (List ℕ)) → in_turn (a ++ b) ≡ in_turn a ++ in_turn b
unfolding in_turn
turn_append [] b = refl
turn_append (words ∷ a) b = ap (words ++◌) (turn_append a b) ∙ sym (append_assoc words (in_turn a) (in_turn b))

pub turn_one : (words : List ℕ) → in_turn (words ∷ []) ≡ words
unfolding in_turn
turn_one words = append-nil words

-- the rounds of halves in turn, two at a time
pub rounds_append : (k : ℕ) (a b : List (List ℕ)) → length a ≡ k + k → rounds_of (a ++ b) ≡ rounds_of a ++ rounds_of b
unfolding rounds_of
rounds_append k [] b even = refl
rounds_append zero (match ∷ a) b even = absurd (omega arith)
rounds_append (suc k) (match ∷ []) b even = absurd (omega arith)
rounds_append (suc k) (match ∷ create ∷ a) b even = ap (framed (match ++ create) ∷◌) (rounds_append k a b (omega arith))

pub rounds_two : (match create : List ℕ) → rounds_of (match ∷ create ∷ []) ≡ framed (match ++ create) ∷ []
unfolding rounds_of
rounds_two match create = refl

pub rounds_length : (k : ℕ) (halves : List (List ℕ)) → length halves ≡ k + k → length (rounds_of halves) ≡ k
unfolding rounds_of
rounds_length zero [] even = refl
rounds_length (suc k) [] even = absurd (omega arith)
rounds_length zero (match ∷ halves) even = absurd (omega arith)
rounds_length (suc k) (match ∷ []) even = absurd (omega arith)
rounds_length (suc k) (match ∷ create ∷ halves) even = omega (arith, rounds_length k halves (omega arith))

-- each half has one word of its round's frame
pub rounds_words : (k : ℕ) (halves : List (List ℕ)) → length halves ≡ k + k → length (in_turn (rounds_of halves)) ≡ length (in_turn halves) + length halves
unfolding rounds_of in_turn
rounds_words k [] even = refl
rounds_words zero (match ∷ halves) even = absurd (omega arith)
rounds_words (suc k) (match ∷ []) even = absurd (omega arith)
rounds_words (suc k) (match ∷ create ∷ halves) even =
    omega (
      arith,
      length-append (framed (match ++ create)) (in_turn (rounds_of halves)),
      length-append (match ++ create) (output_word ∷ []),
      length-append match create,
      length-append match (create ++ in_turn halves),
      length-append create (in_turn halves),
      rounds_words k halves (omega arith),
    )

-- the ends of rounds, with one more behind them
pub ends_more : (start : ℕ) (rounds : List (List ℕ)) (round : List ℕ) → ends_from start (rounds ++ round ∷ []) ≡ ends_from start rounds ++ (start + length (in_turn rounds ++ round)) ∷ []
unfolding ends_from in_turn
ends_more start [] round = refl
ends_more start (first ∷ rounds) round =
    let same : start + length first + length (in_turn rounds ++ round) ≡ start + length ((first ++ in_turn rounds) ++ round) =
    rw (append_assoc first (in_turn rounds) round, length-append first (in_turn rounds ++ round)) (omega arith) in
    ap ((start + length first) ∷◌) (ends_more (start + length first) rounds round ∙ ap (λ n. ends_from (start + length first) rounds ++ n ∷ []) same)

pub ends_length : (start : ℕ) (rounds : List (List ℕ)) → length (ends_from start rounds) ≡ length rounds
unfolding ends_from
ends_length start [] = refl
ends_length start (round ∷ rounds) = ap suc (ends_length (start + length round) rounds)

sum_cons : (n : ℕ) (ns : List ℕ) → sum (n ∷ ns) ≡ n + sum ns
unfolding sum
sum_cons n ns = refl

pub sum_drop : (counts : List ℕ) (n : ℕ) → n < length counts → sum (drop n counts) ≡ get_or counts n 0 + sum (drop (suc n) counts)
sum_drop counts n inside = ap sum (drop-cons counts n 0 inside) ∙ sum_cons (get_or counts n 0) (drop (suc n) counts)

halves_cons : (n : ℕ) (create : Bool) (kinds : List ℕ) (count : ℕ) (counts rows : List ℕ) (e : Env)
    → halves_from n create kinds (count ∷ counts) rows e ≡ half_then n (half create (take count rows) kinds e) (λ e'. halves_from (suc n) (not create) kinds counts (drop count rows) e')
unfolding halves_from
halves_cons n create kinds count counts rows e = refl

halves_nil : (n : ℕ) (create : Bool) (kinds rows : List ℕ) (e : Env) → halves_from n create kinds [] rows e ≡ compiled []
unfolding halves_from
halves_nil n create kinds rows e = refl

then_ok : (n : ℕ) (lines : List Line) (e : Env) (next : Env → Halves) → half_then n (ok lines e) next ≡ after_halves (code_words lines ∷ []) (next (again e))
unfolding half_then
then_ok n lines e next = refl

then_refuse : (n : ℕ) (answer : Compiled) (next : Env → Halves) → half_then n (refuse answer) next ≡ refused_in n answer
unfolding half_then
then_refuse n answer next = refl

module _ (kinds counts rows : List ℕ) (start : Env) where
  abbrev pub whole : Halves
  whole = halves_from 0 false kinds counts rows start

  -- so many halves are done, and the rest goes on from there
  pub record Reached (done : List (List ℕ)) (n row : ℕ) (create : Bool) (e : Env) : Type 0 where
    pub count : length done ≡ n
    pub halves : whole ≡ after_halves done (halves_from n create kinds (drop n counts) (drop row rows) e)
    pub rows_left : row + sum (drop n counts) ≡ length rows
    pub few : length (in_turn done) ≤ 767 * n
    pub fresh : e.next ≡ 0

  pub reached_none : sum counts ≡ length rows → start.next ≡ 0 → Reached [] 0 0 false start
  unfolding in_turn
  reached_none all fresh = record { count = refl; halves = sym (after_nil whole); rows_left = omega (arith, all); few = omega arith; fresh = fresh }

  module _ {done : List (List ℕ)} {n row : ℕ} {create : Bool} {e : Env} (r : Reached done n row create e) where
    pub reached_all : length counts ≤ n → whole ≡ compiled done
    unfolding after_halves
    reached_all past = r.halves ∙ rw (drop_of_length-le counts {i = n} past, halves_nil n create kinds (drop row rows) e) (ap compiled (append-nil done))

    module _ (inside : n < length counts) where
      -- the half's rows
      abbrev pub pattern : List ℕ
      pattern = take (get_or counts n 0) (drop row rows)

      pub rows_inside : row + get_or counts n 0 ≤ length rows
      rows_inside = omega (arith, r.rows_left, sum_drop counts n inside)

      stepped : whole
          ≡ after_halves done (half_then n (half create pattern kinds e) (λ e'. halves_from (suc n) (not create) kinds (drop (suc n) counts) (drop (get_or counts n 0) (drop row rows)) e'))
      stepped = r.halves ∙ rw (drop-cons counts n 0 inside, halves_cons n create kinds (get_or counts n 0) (drop (suc n) counts) (drop row rows) e)

      pub reached_refused : (answer : Compiled) → half create pattern kinds e ≡ refuse answer → whole ≡ refused_in n answer
      reached_refused answer q = stepped ∙ rw (
        q,
        then_refuse n answer (λ e'. halves_from (suc n) (not create) kinds (drop (suc n) counts)
            (drop (get_or counts n 0) (drop row rows)) e'),
      ) (after_refused done n answer)

      pub reached_more : (lines : List Line) (e' : Env) → half create pattern kinds e ≡ ok lines e'
          → Reached (done ++ code_words lines ∷ []) (suc n) (row + get_or counts n 0) (not create) (again e')
      reached_more lines e' q = record {
        count = length-append done (code_words lines ∷ []) ∙ (omega (arith, r.count));
        halves =
            stepped
            ∙ rw (q, then_ok n lines e' (λ e''. halves_from (suc n) (not create) kinds (drop (suc n) counts) (drop (get_or counts n 0) (drop row rows)) e''), drop-drop (get_or counts n 0) row rows)
            (after_after done (code_words lines ∷ []) _);
        rows_left = omega (arith, r.rows_left, sum_drop counts n inside);
        few =
            rw (turn_append done (code_words lines ∷ []), turn_one (code_words lines), length-append (in_turn done) (code_words lines))
            (omega (arith, r.few, half_words create pattern kinds e r.fresh lines e' q));
        fresh = refl;
      }

-- a half that refuses is not done
after_refuses : (done : List (List ℕ)) (h : Halves) {n : ℕ} {answer : Compiled} → after_halves done h ≡ refused_in n answer → h ≡ refused_in n answer
unfolding after_halves
after_refuses done (compiled halves) e = absurd (let z : ◌≡◌ {A = ℕ} 0 1 = cc in omega arith)
after_refuses done (refused_in n answer) e = e

pub halves_refused : (n : ℕ) (create : Bool) (kinds counts rows : List ℕ) (e : Env) {m : ℕ} {answer : Compiled} → e.next ≡ 0 → halves_from n create kinds counts rows e ≡ refused_in m answer
    → NotDone answer
unfolding halves_from half_then
halves_refused n create kinds [] rows e fresh h = absurd (let z : ◌≡◌ {A = ℕ} 0 1 = cc in omega arith)
halves_refused n create kinds (count ∷ counts) rows e {m} {answer} fresh h =
    by (half create (take count rows) kinds e) refl h (λ e'. halves_refused (suc n) (not create) kinds counts (drop count rows) (again e') refl)
  where
    by : (E : Emitted) → half create (take count rows) kinds e ≡ E → half_then n E (λ e'. halves_from (suc n) (not create) kinds counts (drop count rows) e') ≡ refused_in m answer
        → ((e' : Env) → halves_from (suc n) (not create) kinds counts (drop count rows) (again e') ≡ refused_in m answer → NotDone answer) → NotDone answer
    by (refuse other) q g later = let same : other ≡ answer = cc in rw (← same) (half_refuses create (take count rows) kinds e fresh other q)
    by (ok lines e') q g later = later e' (after_refuses (code_words lines ∷ []) (halves_from (suc n) (not create) kinds counts (drop count rows) (again e')) g)
