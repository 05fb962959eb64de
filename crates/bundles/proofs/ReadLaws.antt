-- What is read of a bundle, in words.
use Prim.Native.Nat.{ℕ, ◌*◌}
use mathlib.Core.Path.{◌≡◌, refl, ap}
use mathlib.Core.Logic.{◌↔◌, ◌≢◌}
use mathlib.Core.Bool.{Bool, true, false, ◌&&◌}
use Rattle.std.specs.Prelude.{None, Some}
use mathlib.Core.List.{List}
use lib.Dec.{T}
use lib.ListN.{length}
use Rattle.word.proofs.TestLaws.{both, is_true, is_false, equals, at_most}
use Rattle.bundles.specs.Bundle.{word_bytes, Header, words_in, header_in, bundle_in, header_fits, size_fits, bundle_by, read_bundle, HeaderWithin, BundleWithin}

pub header_within : (h : Header) → T (header_fits h) ↔ HeaderWithin h
header_within h =
    simp (both, equals, at_most) (
      λ t. record { spare = t.0.0.0.0.0; pattern_rows_lem = (t.0.0.0.0.1, t.0.0.0.1); certificates = t.0.0.1; term_rows = t.0.1; counter = t.1 },
      λ w. (((((w.spare, w.pattern_rows_lem.0), w.pattern_rows_lem.1), w.certificates), w.term_rows), w.counter),
    )

module _ (bytes : List ℕ) where
  abbrev fits : Bool
  fits = header_fits (header_in bytes) && size_fits (header_in bytes) bytes

  bundle_within : T fits ↔ BundleWithin bytes
  bundle_within =
      let two = both (header_fits (header_in bytes)) (size_fits (header_in bytes) bytes) in
      let header = header_within (header_in bytes) in
      let size = equals (length bytes) (word_bytes * words_in (header_in bytes)) in
      (λ t. record { header = header.0 (two.0 t).0; size = size.0 (two.0 t).1 }, λ w. two.1 (header.1 w.header, size.1 w.size))

  by_fit : (b : Bool) → fits ≡ b → read_bundle bytes ≡ bundle_by b bytes
  unfolding read_bundle
  by_fit b e = ap (λ b. bundle_by b bytes) e

  pub read_within : BundleWithin bytes → read_bundle bytes ≡ Some (bundle_in bytes)
  read_within w = by_fit true (is_true fits (bundle_within.1 w))

  pub unread_outside : (BundleWithin bytes → ⊥) → read_bundle bytes ≡ None
  unread_outside n = by_fit false (is_false fits λ t. n (bundle_within.0 t))

  pub within_read : read_bundle bytes ≢ None → BundleWithin bytes
  within_read n = go fits refl
    where
      go : (b : Bool) → fits ≡ b → BundleWithin bytes
      go true e = bundle_within.0 (rw e tt)
      go false e = absurd (n (by_fit false e))
