-- Input that is whole, and what its bundle and its lines come to.
use Prim.Native.Nat.{ℕ, ◌+◌, ◌-◌, ◌≤◌}
use mathlib.Core.Path.{◌≡◌, refl, sym, ◌∙◌}
use mathlib.Core.Logic.{◌↔◌}
use mathlib.Core.Bool.{Bool, true, false, cond, not}
use Rattle.std.specs.Prelude.{Option, None, Some}
use mathlib.Core.List.{List}
use native.Mathlib.Omega.{arith}
use borrow.Author.Tests.{le-leb, lt-leb, leb-true, leb-false, not-true, not-false}
use lib.Dec.{T, leb}
use lib.ListN.{length, take, drop, length-drop}
use lib.Seq.{take_all}
use Rattle.word.proofs.TestLaws.{both, at_most, is_false}
use Rattle.text.specs.Written.{Wrote}
use Rattle.text.proofs.WrittenLaws.{wrote_length}
use Rattle.printing.specs.Listing.{refused_line}
use Rattle.bundles.specs.Bundle.{Bundle, read_bundle}
use Rattle.bundles.specs.Opening.{bundle_in, opened}
use Rattle.bundles.specs.declared.Header.{Header}
use Rattle.bundles.proofs.OpeningLaws.{opened_is}
use Rattle.outcomes.proofs.GivenLaws.{refused_none}
use Rattle.outcomes.proofs.Listed.{refused_short}
use Rattle.reading.specs.Rereading.{most_input, bundle_size, bundle_part, lines_part, whole_input, code_again, reread_by, reread}
use Rattle.reading.proofs.AgainLaws.{again_short}

module _ (input : List ℕ) where
  whole_iff : T (whole_input input) ↔ ((length input ≤ most_input) × (8 + bundle_size input ≤ length input))
  whole_iff =
      let few = at_most (length input) most_input in
      let inside = at_most (8 + bundle_size input) (length input) in
      let two = both (leb (length input) most_input) (leb (8 + bundle_size input) (length input)) in
      (λ t. (few.0 (two.0 t).0, inside.0 (two.0 t).1), λ h. two.1 (few.1 h.0, inside.1 h.1))

  pub not_there : ((8 ≤ length input) × (length input ≤ most_input) → ⊥) → false ≡ whole_input input
  not_there bad = sym (is_false _ λ t. let both_fit = whole_iff.0 t in bad (omega arith, both_fit.0))

  pub as_told : {size : ℕ} → 8 ≤ length input → length input ≤ most_input → size ≡ bundle_size input → leb size (length input - 8) ≡ whole_input input
  as_told {size} long few is = rw (le-leb (length input) most_input few, ← is) (go (leb size (length input - 8)) refl)
    where
      go : (b : Bool) → leb size (length input - 8) ≡ b → b ≡ leb (8 + size) (length input)
      go true e = sym (le-leb (8 + size) (length input) (omega (arith, leb-true size (length input - 8) e)))
      go false e = sym (lt-leb (8 + size) (length input) (omega (arith, leb-false size (length input - 8) e)))

  module _ {whole : Bool} (is : whole ≡ whole_input input) where
    pub whole_says : not whole ≡ false → (length input ≤ most_input) × (8 + bundle_size input ≤ length input)
    whole_says fine = whole_iff.0 (rw (sym is ∙ not-false whole fine) tt)

    module _ {before after : List ℕ} {next : ℕ} where
      pub not_whole : not whole ≡ true → Wrote (refused_line 1 0) before 0 after next → Wrote (reread input) before 0 after next
      unfolding reread
      not_whole bad wrote = rw (sym is ∙ not-true whole bad) wrote

      pub is_whole : {size : ℕ} → size ≡ bundle_size input → not whole ≡ false
          → Wrote (reread_by (read_bundle (take (8 + size - 8) (drop 8 input))) (take (length input - (8 + size)) (drop (8 + size) input))) before 0 after next
          → Wrote (reread input) before 0 after next
      unfolding reread
      is_whole {size} told fine wrote =
          let front : 8 + size - 8 ≡ size = omega arith in
          let rest : take (length input - (8 + size)) (drop (8 + size) input) ≡ drop (8 + size) input =
          take_all (length input - (8 + size)) (drop (8 + size) input) (omega (arith, length-drop (8 + size) input)) in
          rw (sym is ∙ not-false whole fine, ← told) (rw (front, rest) at wrote)

-- no bundle, or one with its kinds
module _ (bundle text : List ℕ) {before after : List ℕ} {next : ℕ} where
  pub not_opened : opened bundle ≡ None → Wrote (refused_line 1 0) before 0 after next → Wrote (reread_by (read_bundle bundle) text) before 0 after next
  not_opened refuses wrote = rw (refused_none bundle refuses) wrote

  pub is_opened : (header : Header) {kinds : List ℕ} → opened bundle ≡ Some header → kinds ≡ (bundle_in bundle).kinds → Wrote (code_again text kinds) before 0 after next
      → Wrote (reread_by (read_bundle bundle) text) before 0 after next
  is_opened header opens kinds-are wrote = rw ((opened_is bundle header opens).bundle, ← kinds-are) wrote

-- all that is printed fits its buffer
by_short : (b : Option Bundle) (text : List ℕ) → length (reread_by b text) ≤ 65536
by_short None text = refused_short 1 0
by_short (Some b) text = again_short text b.kinds

reread_short : (input : List ℕ) → length (reread input) ≤ 65536
unfolding reread
reread_short input = go (whole_input input)
  where
    go : (whole : Bool) → length (cond whole (reread_by (read_bundle (bundle_part input)) (lines_part input)) (refused_line 1 0)) ≤ 65536
    go true = by_short (read_bundle (bundle_part input)) (lines_part input)
    go false = refused_short 1 0

pub inside : (input : List ℕ) {before after : List ℕ} {next : ℕ} → Wrote (reread input) before 0 after next → 65536 ≤ length before → next ≤ length after
inside input wrote long = omega (arith, wrote.place, wrote_length wrote, reread_short input)
