-- A role's answer: the call's own 1, the first refusal, 8, or done.
use mathlib.Core.Path.{◌≡◌, refl, sym, ◌∙◌, ap}
use mathlib.Core.Bool.{true, false}
use mathlib.Core.List.{List, ◌++◌}
use Prim.Native.Nat.{ℕ, ◌<◌, ◌≤◌}
use borrow.Author.Tests.{le-leb, lt-leb}
use lib.Dec.{T, eqb}
use lib.ListN.{length, get_or, drop}
use Rattle.word.proofs.TestLaws.{both, equals}
use Rattle.answers.specs.Numbers.{compiled_number, compiled_place}
use Rattle.answers.specs.declared.Compiled.{Compiled}
use Rattle.answers.specs.declared.Compiled.TheVariants.{Done, Limit, CodeTooShort}
use Rattle.stores.specs.Cells.{is_set, unset}
use Rattle.calls.specs.Role.{RoleLent, Halves, compiled, refused_in, rounds_of, in_turn, ends_from, sum, role_refused, role_by, role_fits, role}
use Rattle.knowing.specs.Known.{known}
use Rattle.compiler.specs.CompileKnown.{from_known}
use Rattle.compiler.proofs.OverCells.{not_done}
use Rattle.role_counting.specs.declared.RoleCompiled.{RoleCompiled}
use Rattle.role_counting.specs.Counted.{counted_by}
use Rattle.role_counting.proofs.LengthLaws.{role_lengths, RoleWithin, role_within}
use Rattle.role_writing.specs.Written.{RoundsFit, rounds_in}
use Rattle.calls.proofs.RoleLaws.{whole, halves_refused}

module _ (ends code : List ℕ) (x : RoleLent) where
  pub role_limit : role_fits ends code x ≡ false → role_refused ends code 0 Limit ≡ role ends code x
  unfolding role
  role_limit e = rw e

  module _ (fits : role_fits ends code x ≡ true) where
    both_fit : T (role_lengths (length x.counts) (length x.kinds) (length x.objects) (length x.named) (length ends)) × T (eqb (sum x.counts) (length x.rows))
    both_fit =
        (both (role_lengths (length x.counts) (length x.kinds) (length x.objects) (length x.named) (length ends)) (eqb (sum x.counts) (length x.rows))).0 (rw fits tt)

    pub fits_within : RoleWithin (length x.counts) (length x.kinds) (length x.objects) (length x.named) (length ends)
    fits_within = role_within _ _ _ _ _ both_fit.0

    pub fits_sum : sum x.counts ≡ length x.rows
    fits_sum = (equals (sum x.counts) (length x.rows)).0 both_fit.1

    module _ (seen heard : ℕ) (objects-known : known seen ≡ (λ v. is_set (get_or x.objects v unset))) (named-known : known heard ≡ (λ v. is_set (get_or x.named v unset))) where
      abbrev pub all : Halves
      all = whole x.kinds x.counts x.rows (from_known (known seen) (known heard))

      answered : role ends code x ≡ role_by ends code all
      unfolding role
      answered = rw (fits, objects-known, named-known)

      not_zero : {n : ℕ} {answer : Compiled} → all ≡ refused_in n answer → compiled_number answer ≡ 0 → ⊥
      not_zero {n} {answer} q = not_done answer (halves_refused 0 false x.kinds x.counts x.rows (from_known (known seen) (known heard)) refl q)

      module _ {answer : Compiled} {half : ℕ} (h : record { answer = answer; half = half } ≡ counted_by all) where
        -- what was counted, where nothing refuses
        pub record AllCounted : Type 0 where
          pub halves : List (List ℕ)
          pub compiles : all ≡ compiled halves
          pub says : answer ≡ Done (length (in_turn (rounds_of halves)))
          pub first : half ≡ 0

        all_counted : compiled_number answer ≡ 0 → AllCounted
        all_counted fine = by all refl h
          where
            by : (H : Halves) → all ≡ H → record { answer = answer; half = half } ≡ counted_by H → AllCounted
            by (compiled halves) q g = record { halves = halves; compiles = q; says = ap (λ (r : RoleCompiled). r.answer) g; first = ap (λ (r : RoleCompiled). r.half) g }
            by (refused_in n other) q g = absurd (not_zero q (sym (ap (λ (r : RoleCompiled). compiled_number r.answer) g) ∙ fine))

        pub role_refused_lem : (compiled_number answer ≡ 0 → ⊥) → record { answer = answer; half = half; ends = ends; code = code } ≡ role ends code x
        role_refused_lem other = by all refl h
          where
            by : (H : Halves) → all ≡ H → record { answer = answer; half = half } ≡ counted_by H → record { answer = answer; half = half; ends = ends; code = code } ≡ role ends code x
            by (compiled halves) q g = absurd (other (ap (λ (r : RoleCompiled). compiled_number r.answer) g))
            by (refused_in n refusal) q g = ap (λ (r : RoleCompiled). record { answer = r.answer; half = r.half; ends = ends; code = code }) g ∙ sym (answered ∙ ap (role_by ends code) q)

        module _ (fine : compiled_number answer ≡ 0) where
          abbrev counts : AllCounted
          counts = all_counted fine

          pub role_short : length code < compiled_place answer → role_refused ends code 0 (CodeTooShort (compiled_place answer)) ≡ role ends code x
          role_short less =
              let place : compiled_place answer ≡ length (in_turn (rounds_of counts.halves)) = ap compiled_place counts.says in
              rw place (sym (answered ∙ ap (role_by ends code) counts.compiles ∙ rw (lt-leb (length (in_turn (rounds_of counts.halves))) (length code) (rw place at less))))

          pub role_fit : compiled_place answer ≤ length code → RoundsFit (length code) all
          role_fit most = rw counts.compiles (rw counts.says at most)

          pub role_done : {ends' code' : List ℕ} → compiled_place answer ≤ length code → ends' ≡ ends_from 0 (rounds_in all)
              → code' ≡ in_turn (rounds_in all) ++ drop (length (in_turn (rounds_in all))) code
              → record { answer = answer; half = half; ends = ends'; code = code' } ≡ role ends code x
          role_done most same words =
              let rounds : rounds_in all ≡ rounds_of counts.halves = ap rounds_in counts.compiles in
              let place : compiled_place answer ≡ length (in_turn (rounds_of counts.halves)) = ap compiled_place counts.says in
              (λ i. record {
                answer = counts.says i;
                half = counts.first i;
                ends = (same ∙ ap (ends_from 0) rounds) i;
                code =
                    (words ∙ ap (λ (r : List (List ℕ)). in_turn r ++ drop (length (in_turn r)) code) rounds) i;
              })
              ∙ sym (answered ∙ ap (role_by ends code) counts.compiles ∙ rw (le-leb (length (in_turn (rounds_of counts.halves))) (length code) (rw place at most)))
