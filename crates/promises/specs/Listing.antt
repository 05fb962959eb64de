-- Demand 1 for the bundle and the listing: what is read, what is refused, what is printed.
use Rattle.std.specs.Prelude.{ℕ, zero, ◌≤◌, ◌≡◌, ◌↔◌, ◌≢◌, List, [], ◌∷◌, ◌++◌, length, take, drop, replicate}
use Rattle.std.specs.Prelude.{None, Some}
use Rattle.word.specs.All.{All}
use Rattle.word.specs.Bytes.{spelled}
use Rattle.text.specs.Lines.{line, word_line}
use Rattle.text.specs.Written.{Wrote}
use Rattle.answers.specs.Numbers.{compiled_number, compiled_place}
use Rattle.stores.specs.Certificates.{spare_of}
use Rattle.calls.specs.Compile.{compiled_code}
use Rattle.calls.specs.Run.{run}
use Rattle.bundles.specs.Bundle.{Bundle, bundle_in, read_bundle, BundleWithin}
use Rattle.bundles.specs.Given.{lent_to, compiled_from}
use Rattle.printing.specs.Listing.{end_word, object_word, message_word, refused_line, code_lines, end_line, store_lines, listing}
use Rattle.promises.specs.Answers.{compile_number}

-- not 3: no spare certificate bit
abbrev pub CertificatesClear : Bundle → Type 0
CertificatesClear b = All (λ word. spare_of word ≡ 0) b.certificates

-- the bundle of the listing's example, word for word
abbrev pub P1_bundle : List ℕ
P1_bundle =
    0x0300_0008_0060_0040
    ∷ 0x0000_0000_0000_0000 ∷ 0x1000_0000_0000_0000 ∷ 0x8040_0000_4000_8000
    ∷ 0x2000_0000_0000_0003 ∷ 0x3000_0000_0000_0001 ∷ 0xa200_0000_0100_0000
    ∷ 0x2a00_0000_0000_0000 ∷ replicate 3 0 ++ replicate 32 0xffff_ffff_ffff_ffff

-- the listing that document 01 prints
pub record Printed : Type 0 where
  pub example : listing (spelled 8 P1_bundle)
      ≡ line (0 ∷ 5 ∷ 1 ∷ 0 ∷ 0 ∷ [])
      ++ line (1 ∷ 8 ∷ 1 ∷ 64 ∷ 2 ∷ [])
      ++ line (2 ∷ 2 ∷ 64 ∷ 0 ∷ 0 ∷ [])
      ++ line (3 ∷ 5 ∷ 0 ∷ 0 ∷ 0 ∷ [])
      ++ line (4 ∷ 2 ∷ 65 ∷ 0 ∷ 0 ∷ [])
      ++ line (5 ∷ 3 ∷ 0 ∷ 0 ∷ 0 ∷ [])
      ++ word_line end_word (0 ∷ 6 ∷ 0 ∷ 3 ∷ 4 ∷ 1 ∷ [])
      ++ word_line object_word (0 ∷ 0 ∷ [])
      ++ word_line object_word (1 ∷ 2 ∷ [])
      ++ word_line message_word (0 ∷ 1 ∷ [])

-- the program's two buffers
abbrev pub buffer_bytes : ℕ
buffer_bytes = 65536

-- the program reads so many bytes at most and prints from a buffer of as many: no listing is cut, and input beyond the buffer changes nothing
pub record Program : Type 0 where
  pub fits : (bytes : List ℕ) → length (listing bytes) ≤ buffer_bytes
  pub cut : (bytes : List ℕ) → listing (take buffer_bytes bytes) ≡ listing bytes
  -- what `list` leaves in such a buffer: its first bytes are the listing, and the others are as they were
  pub printed : (bytes : List ℕ) {before after : List ℕ} {end : ℕ} → Wrote (listing bytes) before 0 after end → buffer_bytes ≤ length before
      → (take end after ≡ listing bytes) × (drop end after ≡ drop end before)

pub record ListingTable (bytes : List ℕ) : Type 0 where
  pub unread : (read_bundle bytes ≡ None) ↔ (BundleWithin bytes → ⊥)
  pub read : (read_bundle bytes ≡ Some (bundle_in bytes)) ↔ BundleWithin bytes
  pub limit : (BundleWithin bytes → ⊥) → listing bytes ≡ refused_line 1 0
  pub spare_bit : BundleWithin bytes → (CertificatesClear (bundle_in bytes) → ⊥) → listing bytes ≡ refused_line 3 0
  pub refused : BundleWithin bytes → CertificatesClear (bundle_in bytes) → compile_number (compiled_from (bundle_in bytes)) ≢ 0
      → listing bytes ≡ refused_line (compiled_number (compiled_from (bundle_in bytes)).answer) (compiled_place (compiled_from (bundle_in bytes)).answer)
  pub listed : BundleWithin bytes → CertificatesClear (bundle_in bytes) → compile_number (compiled_from (bundle_in bytes)) ≡ 0
      → let code = compiled_code (compiled_from (bundle_in bytes)) in
      let ran = run (lent_to (bundle_in bytes)) code in
      listing bytes ≡ code_lines zero code ++ end_line ran ++ store_lines ran
