-- A role that is compiled with 0: its rounds in turn, each from the set cells that the one before it carries on.
use Prim.Native.Nat.{ℕ, suc, ◌+◌, ◌*◌, ◌/◌, ◌%◌, ◌≤◌}
use mathlib.Core.Path.{◌≡◌, refl, sym, ◌∙◌, ap}
use mathlib.Core.Bool.{Bool, true, false, cond, not}
use mathlib.Core.List.{List, [], ◌∷◌, ◌++◌, map}
use native.Mathlib.Omega.{arith}
use lib.Dec.{T, leb}
use lib.ListN.{length, take, drop, length-append}
use Rattle.numbers.specs.Limits.{most_rounds}
use Rattle.answers.specs.Numbers.{compiled_number, compiled_place}
use Rattle.answers.specs.declared.Compiled.TheVariants.{Done, Limit, CodeTooShort}
use Rattle.theory.specs.Machine.{Line}
use Rattle.theory.specs.Emission.{Env, Emitted, ok, refuse}
use Rattle.calls.specs.Compile.{code_words, entry}
use Rattle.calls.specs.Half.{half}
use Rattle.calls.specs.Frame.{framed}
use Rattle.calls.specs.Round.{RoundLent}
use Rattle.calls.specs.Role.{RoleLent, RoleOutcome, Halves, compiled, refused_in, after_halves, again, half_then, halves_from, rounds_of, in_turn, ends_from, role_fits, role_refused, role_written, role_by, halves_of, role}
use Rattle.calls.proofs.RoleLaws.{halves_refused}
use Rattle.promises.specs.Halves.{HalfCode, RoundHalves, round_words, RoundCode, RoleCode, RoundPlays, RolePlays, ended, next, half_rows, round_patterns, RoleRounds}
use Rattle.promises.proofs.CompileLaws.{number_done}
use Rattle.promises.proofs.TurnLaws.{role_within}
use Rattle.promises.proofs.RoundDecisionLaws.{next_start, round_few, round_decided, cells_again}

halves_inj : {a b : List (List ℕ)} → compiled a ≡ compiled b → a ≡ b
halves_inj {a} e = ap words e
  where
    words : Halves → List (List ℕ)
    words (compiled halves) = halves
    words (refused_in n answer) = a

-- compiled, or refused
abbrev sort : Halves → ℕ
sort (compiled halves) = 0
sort (refused_in n answer) = 1

module _ (kinds : List ℕ) where
  -- the first of the halves that are left, and the rest
  record FirstHalf (n : ℕ) (create : Bool) (count : ℕ) (counts rows : List ℕ) (set : Env) (halves : List (List ℕ)) : Type 0 where
    words : List ℕ
    rest : List (List ℕ)
    carried : Env
    code : HalfCode create (take count rows) kinds set words carried
    is : halves ≡ words ∷ rest
    later : halves_from (suc n) (not create) kinds counts (drop count rows) carried ≡ compiled rest

  first_half : (n : ℕ) (create : Bool) (count : ℕ) (counts rows : List ℕ) (set : Env) (halves : List (List ℕ))
      → halves_from n create kinds (count ∷ counts) rows set ≡ compiled halves → FirstHalf n create count counts rows set halves
  unfolding halves_from half_then after_halves
  first_half n create count counts rows set halves q = by_half (half create (take count rows) kinds set) refl q
    where
      others : Env → Halves
      others e = halves_from (suc n) (not create) kinds counts (drop count rows) e

      by_rest : (lines : List Line) (env : Env) → half create (take count rows) kinds set ≡ ok lines env
          → (H : Halves) → others (again env) ≡ H → after_halves (code_words lines ∷ []) H ≡ compiled halves → FirstHalf n create count counts rows set halves
      by_rest lines env h (refused_in k answer) g e = absurd (let z : ◌≡◌ {A = ℕ} 1 0 = ap sort e in omega arith)
      by_rest lines env h (compiled rest) g e = record {
        words = code_words lines;
        rest = rest;
        carried = again env;
        code = record { lines = lines; env = env; compiles = h; words = refl; carries = refl };
        is = sym (halves_inj e);
        later = g;
      }

      by_half : (E : Emitted) → half create (take count rows) kinds set ≡ E → half_then n E others ≡ compiled halves → FirstHalf n create count counts rows set halves
      by_half (refuse answer) h e = absurd (let z : ◌≡◌ {A = ℕ} 1 0 = ap sort e in omega arith)
      by_half (ok lines env) h e = by_rest lines env h (others (again env)) refl e

  record Chain (counts rows : List ℕ) (set : Env) (halves : List (List ℕ)) : Type 0 where
    rounds : List RoundHalves
    patterns : round_patterns rounds ≡ half_rows counts rows
    code : RoleCode kinds set rounds
    words : map round_words rounds ≡ rounds_of halves
    count : length rounds + length rounds ≡ length counts

  chain : (n : ℕ) (counts rows : List ℕ) (set : Env) (halves : List (List ℕ)) → length counts % 2 ≡ 0
      → halves_from n false kinds counts rows set ≡ compiled halves → Chain counts rows set halves
  unfolding halves_from rounds_of
  chain n [] rows set halves even q = record { rounds = []; patterns = refl; code = RoleCode.none; words = ap rounds_of (halves_inj q); count = refl }
  chain n (count ∷ []) rows set halves even q = absurd (omega (arith, even))
  chain n (count ∷ other ∷ counts) rows set halves even q =
      let m = first_half n false count (other ∷ counts) rows set halves q in
      let c = first_half (suc n) true other counts (drop count rows) m.carried m.rest m.later in
      let more = chain (suc (suc n)) counts (drop other (drop count rows)) c.carried c.rest (omega (arith, even)) c.later in
      record {
        rounds = record { matching = take count rows; creating = take other (drop count rows); first = m.words; second = c.words } ∷ more.rounds;
        patterns = ap (λ ps. take count rows ∷ take other (drop count rows) ∷ ps) more.patterns;
        code = RoleCode.more (record { carried = m.carried; matches = m.code; creates = c.code }) more.code;
        words = ap (λ rounds. framed (m.words ++ c.words) ∷ rounds) more.words ∙ sym (ap rounds_of (m.is ∙ ap (λ rest. m.words ∷ rest) c.is));
        count = omega (arith, more.count);
      }

-- a compiled round plays, for any stores
pub round_plays : {kinds : List ℕ} {set carried : Env} {r : RoundHalves} → set.next ≡ 0 → RoundCode kinds set r carried → RoundPlays kinds set r carried
round_plays {kinds} {set} {carried} {r} start c = record {
  few_words = round_few c start;
  decides = λ x k ready message. round_decided x (own x k) ready message;
  leaves = λ x k cells e. cells_again x (own x k) cells e;
}
  where
    own : (x : RoundLent) → x.kinds ≡ kinds → RoundCode x.kinds set r carried
    own x k = rw k c

role_plays : {kinds : List ℕ} {set : Env} {rounds : List RoundHalves} → set.next ≡ 0 → RoleCode kinds set rounds → RolePlays kinds set rounds
role_plays start RoleCode.none = ended
role_plays start (RoleCode.more c rest) = next (round_plays start c) (role_plays (next_start c start) rest)

role_few : {kinds : List ℕ} {set : Env} {rounds : List RoundHalves} → set.next ≡ 0 → RoleCode kinds set rounds
    → length (in_turn (map round_words rounds)) ≤ 1536 * length rounds
unfolding in_turn
role_few start RoleCode.none = omega arith
role_few start (RoleCode.more {r = r} {rounds = rounds} c rest) =
    omega (arith, length-append (round_words r) (in_turn (map round_words rounds)), round_few c start, role_few (next_start c start) rest)

module _ (x : RoleLent) (ends slice : List ℕ) where
  counts_fit : T (role_fits ends slice x) → (length x.counts % 2 ≡ 0) × (length x.counts / 2 ≤ most_rounds)
  counts_fit t = let w = (role_within ends slice x).0 t in (w.even, w.rounds.1)

  by_room : length x.counts / 2 ≤ most_rounds → (halves : List (List ℕ)) → Chain x.kinds x.counts x.rows (entry x.objects x.named) halves
      → compiled_number (role_written ends slice (rounds_of halves)).answer ≡ 0 → RoleRounds x slice (role_written ends slice (rounds_of halves))
  by_room few halves c e = rw (← c.words) (go (leb (length words) (length slice)) (rw (← c.words) at e))
    where
      words : List ℕ
      words = in_turn (map round_words c.rounds)

      written : Bool → RoleOutcome
      written fits =
          cond fits (record { answer = Done (length words); half = 0; ends = ends_from 0 (map round_words c.rounds); code = words ++ drop (length words) slice })
          (role_refused ends slice 0 (CodeTooShort (length words)))

      go : (fits : Bool) → compiled_number (written fits).answer ≡ 0 → RoleRounds x slice (written fits)
      go true e = record {
        rounds = c.rounds;
        patterns = c.patterns;
        compiled = c.code;
        plays = role_plays refl c.code;
        few_rounds = omega (arith, few, c.count);
        few_words = omega (arith, few, c.count, role_few refl c.code);
        ends = refl;
        words = refl;
      }
      go false e = absurd (omega (arith, e))

  by_halves : (length x.counts % 2 ≡ 0) × (length x.counts / 2 ≤ most_rounds) → (H : Halves) → halves_of ends slice x ≡ H
      → compiled_number (role_by ends slice H).answer ≡ 0 → RoleRounds x slice (role_by ends slice H)
  by_halves fit (compiled halves) q e = by_room fit.1 halves (chain x.kinds 0 x.counts x.rows (entry x.objects x.named) halves fit.0 q) e
  by_halves fit (refused_in n answer) q e =
      absurd (halves_refused 0 false x.kinds x.counts x.rows (entry x.objects x.named) refl q (compiled_place answer) (number_done answer e))

  pub role_rounds : compiled_number (role ends slice x).answer ≡ 0 → RoleRounds x slice (role ends slice x)
  unfolding role
  role_rounds = go (role_fits ends slice x) refl
    where
      go : (fits : Bool) → role_fits ends slice x ≡ fits → compiled_number (cond fits (role_by ends slice (halves_of ends slice x)) (role_refused ends slice 0 Limit)).answer ≡ 0
          → RoleRounds x slice (cond fits (role_by ends slice (halves_of ends slice x)) (role_refused ends slice 0 Limit))
      go true fits e = by_halves (counts_fit (rw fits tt)) (halves_of ends slice x) refl e
      go false fits e = absurd (omega (arith, e))
