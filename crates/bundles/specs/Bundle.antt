-- A bundle: 64-bit words, high byte first.
use Rattle.std.specs.Prelude.{ℕ, ◌+◌, ◌*◌, ◌≤◌, ◌≡◌, Bool, true, false, ◌&&◌, length, take, drop, replicate, get_or, eqb, leb}
use Rattle.std.specs.Prelude.{Option, None, Some}
use mathlib.Core.List.{List, [], ◌∷◌, flat_map}
use Rattle.word.specs.Fields.{split, at}
use Rattle.word.specs.Bytes.{elements}
use Rattle.word.specs.Lowest.{each}
use Rattle.stores.specs.Certificates.{spare_of}
use Rattle.numbers.specs.Limits.{most_pattern_rows, most_names, most_certificates, most_term_rows}

abbrev pub word_bytes : ℕ
word_bytes = 8

-- create 1, pattern rows 7, certificates 6, accumulator 16, term rows 13, counter 17, zero 4
abbrev pub header_widths : List ℕ
header_widths = 1 ∷ 7 ∷ 6 ∷ 16 ∷ 13 ∷ 17 ∷ 4 ∷ []

pub record Header : Type 0 where
  pub create : ℕ
  pub pattern_rows : ℕ
  pub certificates : ℕ
  pub accumulator : ℕ
  pub term_rows : ℕ
  pub counter : ℕ
  pub spare : ℕ

unfoldable pub header_of : ℕ → Header
header_of word =
    let all = split header_widths word in
    record {
      create = at 0 all;
      pattern_rows = at 1 all;
      certificates = at 2 all;
      accumulator = at 3 all;
      term_rows = at 4 all;
      counter = at 5 all;
      spare = at 6 all;
    }

-- 64 kinds of 4 bits are 4 words; 64 cells of 16 bits are 16
abbrev pub kind_words : ℕ
kind_words = 4

abbrev pub cell_words : ℕ
cell_words = 16

abbrev pub kinds_of : List ℕ → List ℕ
kinds_of words = flat_map (split (replicate 16 4)) words

abbrev pub cells_of : List ℕ → List ℕ
cells_of words = flat_map (split (replicate 4 16)) words

abbrev pub words_in : Header → ℕ
words_in h = 1 + h.pattern_rows + h.term_rows + kind_words + cell_words + cell_words + h.certificates

pub record Bundle : Type 0 where
  pub create : Bool
  pub pattern : List ℕ
  pub terms : List ℕ
  pub kinds : List ℕ
  pub objects : List ℕ
  pub named : List ℕ
  pub certificates : List ℕ
  pub accumulator : ℕ
  pub counter : ℕ

-- the words of a bundle after its header, part after part
unfoldable pub bundle_of : Header → List ℕ → Bundle
bundle_of h words =
    let terms = drop h.pattern_rows words in
    let kinds = drop h.term_rows terms in
    let objects = drop kind_words kinds in
    let named = drop cell_words objects in
    let certificates = drop cell_words named in
    record {
      create = eqb h.create 1;
      pattern = take h.pattern_rows words;
      terms = take h.term_rows terms;
      kinds = kinds_of (take kind_words kinds);
      objects = cells_of (take cell_words objects);
      named = cells_of (take cell_words named);
      certificates = certificates;
      accumulator = h.accumulator;
      counter = h.counter;
    }

-- the header is the first word
abbrev pub header_in : List ℕ → Header
header_in bytes = header_of (get_or (elements word_bytes bytes) 0 0)

abbrev pub bundle_in : List ℕ → Bundle
bundle_in bytes = bundle_of (header_in bytes) (drop 1 (elements word_bytes bytes))

-- a header whose spare bits are zero and whose counts and name counter are within their limits
abbrev pub header_fits : Header → Bool
header_fits h =
    eqb h.spare 0 && leb 1 h.pattern_rows && leb h.pattern_rows most_pattern_rows && leb h.certificates most_certificates
    && leb h.term_rows most_term_rows && leb h.counter most_names

-- the size is exact
abbrev pub size_fits : Header → List ℕ → Bool
size_fits h bytes = eqb (length bytes) (word_bytes * words_in h)

abbrev pub bundle_by : Bool → List ℕ → Option Bundle
bundle_by true bytes = Some (bundle_in bytes)
bundle_by false bytes = None

-- none is 1
unfoldable pub read_bundle : List ℕ → Option Bundle
read_bundle bytes = bundle_by (header_fits (header_in bytes) && size_fits (header_in bytes) bytes) bytes

-- not 1, in words: no spare header bit, counts and name counter within their limits,
pub record HeaderWithin (h : Header) : Type 0 where
  pub spare : h.spare ≡ 0
  pub pattern_rows_lem : (1 ≤ h.pattern_rows) × (h.pattern_rows ≤ most_pattern_rows)
  pub certificates : h.certificates ≤ most_certificates
  pub term_rows : h.term_rows ≤ most_term_rows
  pub counter : h.counter ≤ most_names

-- and exactly the size that they say
pub record BundleWithin (bytes : List ℕ) : Type 0 where
  pub header : HeaderWithin (header_in bytes)
  pub size : length bytes ≡ word_bytes * words_in (header_in bytes)

-- no spare bit of a certificate is set
abbrev pub clear_of : List ℕ → Bool
clear_of certificates = each (λ word. eqb (spare_of word) 0) certificates

abbrev pub certificates_clear : Bundle → Bool
certificates_clear b = clear_of b.certificates
