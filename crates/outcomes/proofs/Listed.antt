-- What the program prints: every listing fits its buffer, and input that does not fit is refused, as the whole of it is.
use Prim.Native.Nat.{ℕ, ◌<◌, ◌≤◌}
use mathlib.Core.Path.{◌≡◌, refl, sym, ◌∙◌}
use mathlib.Core.Bool.{Bool, true, false}
use Rattle.std.specs.Prelude.{Option, None, Some}
use mathlib.Core.List.{List, [], ◌∷◌, ◌++◌}
use native.Mathlib.Nat.{zero-add}
use native.Mathlib.Decide.{dec_le}
use native.Mathlib.Omega.{arith}
use borrow.Author.Tests.{eqb-true}
use lib.Dec.{eqb}
use lib.ListN.{length, take, drop, replicate, length-take}
use lib.Seq.{sets-eq, take_all, take_at, drop_at}
use Rattle.text.specs.Written.{Wrote}
use Rattle.text.proofs.WrittenLaws.{wrote_length}
use Rattle.text.proofs.LineLaws.{word_line_most}
use Rattle.answers.specs.Numbers.{compiled_number, compiled_place}
use Rattle.answers.specs.declared.Ran.{Ran}
use Rattle.bundles.specs.Opening.{bundle_in, opened}
use Rattle.bundles.specs.declared.Header.{Header}
use Rattle.bundles.proofs.OpeningLaws.{refuses, opened_is}
use Rattle.bundles.proofs.BundleLaws.{lengths}
use Rattle.printing.proofs.RanLaws.{ran_length}
use Rattle.bundles.specs.Bundle.{Bundle, read_bundle, certificates_clear}
use Rattle.theory.specs.Outcome.{Outcome, done, stuck, room}
use Rattle.theory.specs.RowModel.{row_world}
use Rattle.theory.specs.Machine.{State, exec}
use Rattle.calls.specs.Compile.{CompileOutcome, compiled_code}
use Rattle.answers.specs.First.{first}
use Rattle.numbers.specs.Kinds.{kind_in}
use Rattle.calls.specs.Run.{Lent, state_of, lines_of, left_by, ended, refusals, run_by, run}
use Rattle.numbers.specs.Limits.{most_code_words}
use Rattle.bundles.specs.Given.{Given, refused, ran, lent_to, compiled_from, given_compiled, given_read, given_by}
use Rattle.printing.specs.Listing.{refused_word, refused_line, given_lines, listing}
use Rattle.calls.proofs.CompileLaws.{part_length}
use Rattle.calls.proofs.ValidAgain.{length_cells}
use Rattle.outcomes.proofs.GivenLaws.{few_place, refused_none}

run_objects : (x : Lent) (code : List ℕ) → length x.objects ≡ 64 → length (run x code).objects ≡ 64
unfolding run left_by
run_objects x code long = by (first (refusals x code))
  where
    after : (o : Outcome (State row_world)) → length (ended (length code) x o).objects ≡ 64
    after (done s) = length_cells 0 64 s.stores.σ
    after (stuck place why) = long
    after (room place) = long

    by : (o : Option Ran) → length (run_by x code o).objects ≡ 64
    by (Some answer) = long
    by None = after (exec row_world (kind_in x.kinds) (lines_of code) (state_of x))

pub refused_short : (number place : ℕ) → length (refused_line number place) ≤ 65536
refused_short number place = omega (arith, word_line_most refused_word (number ∷ place ∷ []))

compiled_short : (bytes : List ℕ) (header : Header) → opened bytes ≡ Some header → (c : CompileOutcome)
    → (compiled_number c.answer ≡ 0 → compiled_place c.answer ≤ 767) → length (given_lines (given_compiled (bundle_in bytes) c)) ≤ 65536
compiled_short bytes header opens c few = go (eqb (compiled_number c.answer) 0) (eqb-true (compiled_number c.answer) 0)
  where
    words : List ℕ
    words = compiled_code c

    b : Bundle
    b = bundle_in bytes

    go : (done : Bool) → (done ≡ true → compiled_number c.answer ≡ 0)
        → length (given_lines (elim done as (λ _. Given) [ true ↦ ran words (run (lent_to b) words) | false ↦ refused (compiled_number c.answer) (compiled_place c.answer) ])) ≤ 65536
    go true is =
        let long = run_objects (lent_to b) words (lengths bytes header opens).objects in
        let fits = few (is refl) in
        omega (arith, ran_length words (run (lent_to b) words) (omega (arith, part_length (compiled_place c.answer) c.code)) (omega arith))
    go false is = refused_short _ _

-- every listing fits 65,536 bytes
pub listing_short : (bytes : List ℕ) → length (listing bytes) ≤ 65536
unfolding listing given_by
listing_short bytes = by (opened bytes) refl
  where
    by : (o : Option Header) → opened bytes ≡ o → length (given_lines (given_read (read_bundle bytes))) ≤ 65536
    by None e = rw (refused_none bytes e) (refused_short 1 0)
    by (Some header) e = rw (opened_is bytes header e).bundle (go (certificates_clear b))
      where
        b : Bundle
        b = bundle_in bytes

        compiled : CompileOutcome
        compiled = compiled_from b

        go : (clear : Bool) → length (given_lines (elim clear as (λ _. Given) [ true ↦ given_compiled b compiled | false ↦ refused 3 0 ])) ≤ 65536
        go true = compiled_short bytes header e compiled (few_place bytes header e (replicate most_code_words 0))
        go false = refused_short 3 0

-- in a buffer of that length, the first bytes are the listing, and the others are as they were
module _ (bytes : List ℕ) {before after : List ℕ} {next : ℕ} (wrote : Wrote (listing bytes) before 0 after next) (long : 65536 ≤ length before) where
  pub inside : next ≤ length after
  inside = omega (arith, wrote.place, wrote_length wrote, listing_short bytes)

  pub printed : (take next after ≡ listing bytes) × (drop next after ≡ drop next before)
  printed =
      let end : length (listing bytes) ≡ next = omega (arith, wrote.place) in
      let is : after ≡ listing bytes ++ drop next before = wrote.bytes ∙ sets-eq (listing bytes) before 0 (omega (arith, listing_short bytes)) ∙ rw (zero-add, end) in
      (rw is (take_at (listing bytes) (drop next before) next end), rw is (drop_at (listing bytes) (drop next before) next end))

-- no bundle is longer than 34,088 bytes
long_refused : (bytes : List ℕ) → 34088 < length bytes → listing bytes ≡ refused_line 1 0
unfolding listing given_by
long_refused bytes long = rw (refused_none bytes (sym (refuses bytes λ w. omega (arith, w.size, w.header))))

-- input beyond the buffer changes nothing
pub cut : (bytes : List ℕ) → listing (take 65536 bytes) ≡ listing bytes
cut bytes = go (dec_le (length bytes) 65536)
  where
    go : Dec (length bytes ≤ 65536) → listing (take 65536 bytes) ≡ listing bytes
    go (yes fits) = rw (take_all 65536 bytes fits)
    go (no longer) =
        long_refused (take 65536 bytes) (omega (arith, length-take 65536 bytes, longer)) ∙ sym (long_refused bytes (omega (arith, longer)))
