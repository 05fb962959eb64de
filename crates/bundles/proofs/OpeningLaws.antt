-- When a bundle opens, way by way.
use Prim.Native.Nat.{ℕ, suc, ◌+◌, ◌-◌, ◌*◌, ◌/◌, ◌%◌, ◌<◌, ◌≤◌}
use mathlib.Core.Path.{◌≡◌, sym, ◌∙◌, ap}
use mathlib.Core.Logic.{◌↔◌, ◌⊎◌, inl, inr}
use mathlib.Core.Bool.{Bool, true, false, not}
use Rattle.std.specs.Prelude.{None, Some}
use mathlib.Core.List.{List}
use native.Mathlib.Omega.{arith}
use borrow.Author.Tests.{le-leb, lt-leb, not-true, not-false}
use lib.Dec.{leb}
use Rattle.word.proofs.ScanLaws.{lt_or_ge}
use lib.ListN.{length, get_or, take, drop}
use Rattle.word.specs.Bytes.{number, words, elements}
use Rattle.word.proofs.TestLaws.{is_true, is_false}
use Rattle.bundles.specs.Bundle.{header_of, header_fits, words_in, read_bundle, HeaderWithin, BundleWithin}
use Rattle.bundles.proofs.ReadLaws.{header_within, read_within, unread_outside, within_read}
use Rattle.bundles.specs.Opening.{header_in, bundle_in, held_header, kinds_at, opened_by, opened}
use Rattle.bundles.specs.declared.Header.{Header}

-- the check, of the header as the code holds it
module _ (word : ℕ) {header : Header} (is : header ≡ held_header (header_of word)) where
  spare_bits : (header_of word).spare ≡ word % 16
  unfolding header_of
  spare_bits = omega arith

  abbrev pub Fits : Type 0
  Fits = (word % 16 ≡ 0) × (1 ≤ header.pattern_rows) × (header.pattern_rows ≤ 96) × (header.certificates ≤ 32) × (header.term_rows ≤ 4096) × (header.counter ≤ 65536)

  fits_within : HeaderWithin (header_of word) ↔ Fits
  fits_within =
      let rows = ap (λ h. h.pattern_rows) is in
      let certificates = ap (λ h. h.certificates) is in
      let terms = ap (λ h. h.term_rows) is in
      let counter = ap (λ h. h.counter) is in (
        λ w. (
          omega (arith, spare_bits, w.spare),
          omega (arith, rows, w.pattern_rows_lem),
          omega (arith, rows, w.pattern_rows_lem),
          omega (arith, certificates, w.certificates),
          omega (arith, terms, w.term_rows),
          omega (arith, counter, w.counter),
        ),
        λ f. record {
          spare = omega (arith, spare_bits, f.0);
          pattern_rows_lem = (omega (arith, rows, f.1), omega (arith, rows, f.2));
          certificates = omega (arith, certificates, f.3);
          term_rows = omega (arith, terms, f.4);
          counter = omega (arith, counter, f.5);
        },
      )

  pub outside : (Fits → ⊥) → false ≡ header_fits (header_of word)
  outside bad = sym (is_false _ (λ t. bad (fits_within.0 ((header_within _).0 t))))

  pub within : Fits → true ≡ header_fits (header_of word)
  within fits = sym (is_true _ ((header_within _).1 (fits_within.1 fits)))

  -- where the others fit, the last count says it
  pub by_counter : (word % 16 ≡ 0) × (1 ≤ header.pattern_rows) → (header.pattern_rows ≤ 96) × (header.certificates ≤ 32) × (header.term_rows ≤ 4096)
      → leb header.counter 65536 ≡ header_fits (header_of word)
  by_counter first others = go (lt_or_ge 65536 header.counter)
    where
      go : (65536 < header.counter) ⊎ (header.counter ≤ 65536) → leb header.counter 65536 ≡ header_fits (header_of word)
      go (inl high) = lt-leb _ _ high ∙ outside (λ f. omega arith)
      go (inr low) = le-leb _ _ low ∙ within (first.0, first.1, others.0, others.1, others.2, low)

pub refuses : (bytes : List ℕ) → (BundleWithin bytes → ⊥) → None ≡ opened bytes
unfolding opened
refuses bytes bad = rw (unread_outside bytes bad)

pub opens : (bytes : List ℕ) → BundleWithin bytes → Some (held_header (header_in bytes)) ≡ opened bytes
unfolding opened
opens bytes good = rw (read_within bytes good)

-- what opened says of a bundle and its header
pub record Opens (bytes : List ℕ) (header : Header) : Type 0 where
  pub within : BundleWithin bytes
  pub is : header ≡ held_header (header_in bytes)
  pub bundle : read_bundle bytes ≡ Some (bundle_in bytes)

pub opened_is : (bytes : List ℕ) (header : Header) → opened bytes ≡ Some header → Opens bytes header
unfolding opened
opened_is bytes header e =
    let within = within_read bytes λ n. let z : ◌≡◌ {A = ℕ} 0 1 = cc (ap (λ b. opened_by b (header_in bytes)) n) in omega arith in
    let bundle = read_within bytes within in
    record { within = within; is = cc (ap (λ b. opened_by b (header_in bytes)) bundle); bundle = bundle }

-- each way out of the code
first_word : (bytes : List ℕ) → 8 ≤ length bytes → get_or (elements 8 bytes) 0 0 ≡ number (take 8 bytes)
unfolding words
first_word bytes long = let some_word : length bytes / 8 ≡ suc (length bytes / 8 - 1) = omega arith in rw some_word

pub too_short : (bytes : List ℕ) → length bytes < 8 → None ≡ opened bytes
too_short bytes short = refuses bytes λ w. omega (arith, w.size)

module _ (bytes : List ℕ) {word : ℕ} (long : 8 ≤ length bytes) (is : word ≡ number (take 8 (drop 0 bytes))) where
  the_header : header_in bytes ≡ header_of word
  the_header = rw (first_word bytes long, is)

  pub bad_header : {good : Bool} → good ≡ header_fits (header_of word) → not good ≡ true → None ≡ opened bytes
  bad_header {good} e bad =
      refuses bytes λ w. let f : header_fits (header_in bytes) ≡ false = ap header_fits the_header ∙ sym e ∙ not-true good bad in rw f at ((header_within _).1 w.header)

  module _ {header : Header} {kinds : ℕ} (of : header ≡ held_header (header_of word)) (at : kinds ≡ kinds_at header) where
    same_size : kinds + 36 + header.certificates ≡ words_in (header_in bytes)
    same_size = rw (ap words_in the_header, at, of) (omega arith)

    pub wrong_size : (length bytes ≡ 8 * (kinds + 36 + header.certificates) → ⊥) → None ≡ opened bytes
    wrong_size bad = refuses bytes λ w. bad (w.size ∙ ap (8 *◌) (sym same_size))

    pub right_size : {good : Bool} → good ≡ header_fits (header_of word) → not good ≡ false → length bytes ≡ 8 * (kinds + 36 + header.certificates)
        → Some header ≡ opened bytes
    right_size {good} e fine size =
        let t : header_fits (header_in bytes) ≡ true = ap header_fits the_header ∙ sym e ∙ not-false good fine in
        ap Some (of ∙ ap held_header (sym the_header))
        ∙ opens bytes (record { header = (header_within _).0 (rw t tt); size = size ∙ ap (8 *◌) same_size })

pub ruleset opening-ways = (too_short, bad_header, wrong_size, right_size, arith)
