-- The next round of a role that compiles: both its halves do, and its words fit where all the role's do.
use mathlib.Core.Path.{◌≡◌, refl, sym, ◌∙◌, ap}
use mathlib.Core.Bool.{true, false}
use mathlib.Core.List.{List, [], ◌∷◌, ◌++◌, append_assoc}
use Prim.Native.Nat.{ℕ, suc, ◌+◌, ◌*◌, ◌<◌, ◌≤◌}
use native.Mathlib.Numerals.{add-one}
use native.Mathlib.Omega.{arith}
use lib.ListN.{length, get_or, take, drop, length-append}
use Rattle.code.specs.Instruction.{word_of}
use Rattle.theory.specs.Machine.{Line}
use Rattle.theory.specs.Emission.{Env, Emitted, ok, refuse, behind, and_then}
use Rattle.calls.specs.Compile.{code_words}
use Rattle.calls.specs.Half.{half}
use Rattle.calls.specs.Frame.{framed}
use Rattle.calls.specs.Role.{compiled, again, rounds_of, in_turn}
use Rattle.role_writing.specs.Written.{round_emitted}
use Rattle.calls.proofs.RoleLaws.{after_compiled, refused_compiled, turn_append, turn_one, rounds_append, rounds_two, whole, Reached, reached_refused, reached_more}

-- lines of both halves
pub words_append : (a b : List Line) → code_words (a ++ b) ≡ code_words a ++ code_words b
words_append [] b = refl
words_append (line ∷ a) b = ap (word_of line.instruction ∷◌) (words_append a b)

-- a round of two halves that compile
pub round_ok : (kinds matching creating : List ℕ) (e : Env) {m c : List Line} {e₁ e₂ : Env} → half false matching kinds e ≡ ok m e₁ → half true creating kinds (again e₁) ≡ ok c e₂
    → round_emitted kinds matching creating e ≡ ok (m ++ c) e₂
unfolding round_emitted and_then behind
round_ok kinds matching creating e p q = rw (p, q)

-- the next round
module _ (kinds counts rows : List ℕ) (start : Env) {halves : List (List ℕ)} (all : whole kinds counts rows start ≡ compiled halves) where
  module _ (round : ℕ) {done : List (List ℕ)} {row : ℕ} {e : Env} (r : Reached kinds counts rows start done (2 * round) row false e) (inside : 2 * round + 1 < length counts) where
    abbrev first : ℕ
    first = get_or counts (2 * round) 0

    abbrev second : ℕ
    second = get_or counts (2 * round + 1) 0

    abbrev matching : List ℕ
    matching = take first (drop row rows)

    abbrev creating : List ℕ
    creating = take second (drop (row + first) rows)

    pub record RoundAhead : Type 0 where
      pub lines : List Line
      pub env : Env
      pub emits : round_emitted kinds matching creating e ≡ ok lines env
      pub after : List (List ℕ)
      pub next : Reached kinds counts rows start after (2 * (round + 1)) (row + first + second) false (again env)
      pub rounds : rounds_of after ≡ rounds_of done ++ framed (code_words lines) ∷ []
      pub fits : length (in_turn (rounds_of done)) + length (framed (code_words lines)) ≤ length (in_turn (rounds_of halves))

    fit : (m c : List Line) {n row' : ℕ} {e' : Env} → Reached kinds counts rows start ((done ++ code_words m ∷ []) ++ code_words c ∷ []) n row' false e'
        → (rounds_of ((done ++ code_words m ∷ []) ++ code_words c ∷ []) ≡ rounds_of done ++ framed (code_words (m ++ c)) ∷ [])
        × (length (in_turn (rounds_of done)) + length (framed (code_words (m ++ c))) ≤ length (in_turn (rounds_of halves)))
    fit m c s =
        let a : List ℕ = code_words m in
        let b : List ℕ = code_words c in
        let frame : List ℕ = framed (code_words (m ++ c)) in
        let together : (done ++ a ∷ []) ++ b ∷ [] ≡ done ++ a ∷ b ∷ [] = append_assoc done (a ∷ []) (b ∷ []) in
        let even : length done ≡ round + round = omega (arith, r.count) in
        let rounds : rounds_of ((done ++ a ∷ []) ++ b ∷ []) ≡ rounds_of done ++ frame ∷ [] =
        rw (together, rounds_append round done (a ∷ b ∷ []) even, rounds_two a b, words_append m c) in
        let (more, split) = after_compiled ((done ++ a ∷ []) ++ b ∷ []) _ (sym s.halves ∙ all) in
        let longer : length ((done ++ a ∷ []) ++ b ∷ []) ≡ suc round + suc round = ap length together ∙ length-append done (a ∷ b ∷ []) ∙ (omega (arith, even)) in
        let words : in_turn (rounds_of halves) ≡ (in_turn (rounds_of done) ++ frame) ++ in_turn (rounds_of more) =
        ap (λ (h : List (List ℕ)). in_turn (rounds_of h)) split
        ∙ ap in_turn (rounds_append (suc round) ((done ++ a ∷ []) ++ b ∷ []) more longer ∙ ap (◌++ rounds_of more) rounds)
        ∙ turn_append (rounds_of done ++ frame ∷ []) (rounds_of more)
        ∙ ap (◌++ in_turn (rounds_of more)) (turn_append (rounds_of done) (frame ∷ []) ∙ ap (in_turn (rounds_of done) ++◌) (turn_one frame)) in
        (rounds, omega (arith, ap length words, length-append (in_turn (rounds_of done) ++ frame) (in_turn (rounds_of more)), length-append (in_turn (rounds_of done)) frame))

    pub round_ahead : RoundAhead
    round_ahead = by_match (half false matching kinds e) refl
      where
        by_create : (m : List Line) (e₁ : Env) → half false matching kinds e ≡ ok m e₁ → (E : Emitted) → half true creating kinds (again e₁) ≡ E → RoundAhead
        by_create m e₁ p (refuse answer) q =
            absurd (refused_compiled (reached_refused kinds counts rows start (reached_more kinds counts rows start r (omega arith) m e₁ p) (rw add-one at inside) answer (rw add-one at q)) all)
        by_create m e₁ p (ok c e₂) q =
            let s = reached_more kinds counts rows start (reached_more kinds counts rows start r (omega arith) m e₁ p) (rw add-one at inside) c e₂ (rw add-one at q) in
            let f = fit m c s in
            let two : 2 * (round + 1) ≡ suc (suc (2 * round)) = omega arith in
            record {
              lines = m ++ c;
              env = e₂;
              emits = round_ok kinds matching creating e p q;
              after = (done ++ code_words m ∷ []) ++ code_words c ∷ [];
              next = rw (two, add-one (2 * round)) s;
              rounds = f.0;
              fits = f.1;
            }

        by_match : (E : Emitted) → half false matching kinds e ≡ E → RoundAhead
        by_match (refuse answer) p = absurd (refused_compiled (reached_refused kinds counts rows start r (omega arith) answer p) all)
        by_match (ok m e₁) p = by_create m e₁ p (half true creating kinds (again e₁)) refl
