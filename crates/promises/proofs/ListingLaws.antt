-- The listing, answer by answer.
use Prim.Native.Nat.{ℕ}
use mathlib.Core.Path.{◌≡◌, ◌∙◌}
use mathlib.Core.Logic.{◌↔◌}
use mathlib.Core.List.{List}
use native.Mathlib.Omega.{arith}
use borrow.Author.Tests.{eq-eqb, ne_eqb}
use lib.Dec.{T, eqb}
use Rattle.word.proofs.TestLaws.{is_true, is_false, equals}
use Rattle.word.proofs.LowestLaws.{each_all}
use Rattle.stores.specs.Certificates.{spare_of}
use Rattle.bundles.specs.Bundle.{bundle_in, certificates_clear, BundleWithin}
use Rattle.bundles.specs.Given.{compiled_from, given_compiled, given_read, given_by}
use Rattle.printing.specs.Listing.{refused_line, given_lines, listing}
use Rattle.bundles.proofs.ReadLaws.{read_within, unread_outside, within_read}
use Rattle.promises.specs.Answers.{compile_number}
use Rattle.promises.specs.Listing.{CertificatesClear, ListingTable}

module _ (bytes : List ℕ) where
  clear : T (certificates_clear (bundle_in bytes)) ↔ CertificatesClear (bundle_in bytes)
  clear = each_all (λ word. eqb (spare_of word) 0) (λ word. spare_of word ≡ 0) (λ word. equals (spare_of word) 0) (bundle_in bytes).certificates

  clear_lines : BundleWithin bytes → CertificatesClear (bundle_in bytes) → listing bytes ≡ given_lines (given_compiled (bundle_in bytes) (compiled_from (bundle_in bytes)))
  unfolding listing given_by
  clear_lines w c = rw (read_within bytes w, is_true (certificates_clear (bundle_in bytes)) (clear.1 c), given_read)

  limit_line : (BundleWithin bytes → ⊥) → listing bytes ≡ refused_line 1 0
  unfolding listing given_by
  limit_line n = rw (unread_outside bytes n)

  spare_line : BundleWithin bytes → (CertificatesClear (bundle_in bytes) → ⊥) → listing bytes ≡ refused_line 3 0
  unfolding listing given_by
  spare_line w n = rw (read_within bytes w, is_false (certificates_clear (bundle_in bytes)) (λ t. n (clear.0 t)), given_read)

  pub listing_table : ListingTable bytes
  listing_table =
      let number = compile_number (compiled_from (bundle_in bytes)) in
      record {
        unread = (λ e w. let q = read_within bytes w in let z : ◌≡◌ {A = ℕ} 0 1 = cc in omega arith, unread_outside bytes);
        read = (λ e. within_read bytes λ n. let z : ◌≡◌ {A = ℕ} 0 1 = cc in omega arith, read_within bytes);
        limit = limit_line;
        spare_bit = spare_line;
        refused = λ w c n. clear_lines w c ∙ rw (ne_eqb number 0 n, given_compiled);
        listed = λ w c e. clear_lines w c ∙ rw (eq-eqb number 0 e, given_compiled);
      }
