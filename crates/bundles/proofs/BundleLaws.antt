-- Where the fields of a bundle that opened stand among its words.
use Prim.Native.Nat.{ℕ, suc, ◌+◌, ◌*◌, ◌≤◌}
use mathlib.Core.Path.{◌≡◌, refl, sym, ap}
use mathlib.Core.List.{List, [], ◌∷◌, flat_map}
use native.Mathlib.Nat.{add_assoc, mul-zero}
use native.Mathlib.Omega.{arith}
use lib.ListN.{length, take, drop, replicate, length-append, length-drop}
use lib.Seq.{take_all, drop-drop, length-take-le}
use Rattle.word.specs.Bytes.{elements}
use Rattle.word.specs.Fields.{split}
use Rattle.word.proofs.ByteLaws.{length_words}
use Rattle.bundles.specs.Bundle.{bundle_of, kinds_of, cells_of}
use Rattle.bundles.specs.Opening.{header_in, bundle_in, kinds_at, opened}
use Rattle.bundles.specs.declared.Header.{Header}
use Rattle.std.specs.Prelude.{Some}
use Rattle.bundles.proofs.OpeningLaws.{opened_is}

pub record Fields (bytes : List ℕ) (header : Header) : Type 0 where
  pub create : (bundle_in bytes).create ≡ header.create
  pub accumulator : (bundle_in bytes).accumulator ≡ header.accumulator
  pub counter : (bundle_in bytes).counter ≡ header.counter
  pub limits : (header.pattern_rows ≤ 96) × (header.term_rows ≤ 4096) × (header.certificates ≤ 32)
  pub size : length bytes ≡ 8 * (kinds_at header + 36 + header.certificates)
  pub pattern : (bundle_in bytes).pattern ≡ take header.pattern_rows (drop 1 (elements 8 bytes))
  pub terms : (bundle_in bytes).terms ≡ take header.term_rows (drop (1 + header.pattern_rows) (elements 8 bytes))
  pub kinds : (bundle_in bytes).kinds ≡ kinds_of (take 4 (drop (kinds_at header) (elements 8 bytes)))
  pub objects : (bundle_in bytes).objects ≡ cells_of (take 16 (drop (kinds_at header + 4) (elements 8 bytes)))
  pub named : (bundle_in bytes).named ≡ cells_of (take 16 (drop (kinds_at header + 20) (elements 8 bytes)))
  pub certificates :
      (bundle_in bytes).certificates ≡ take header.certificates (drop (kinds_at header + 36) (elements 8 bytes))

pub fields : (bytes : List ℕ) (header : Header) → opened bytes ≡ Some header → Fields bytes header
unfolding bundle_of
fields bytes header e =
    let o = opened_is bytes header e in
    let w = o.within in
    let all = elements 8 bytes in
    let h = header_in bytes in
    let last = 1 + h.pattern_rows + h.term_rows + 36 in
    let rest : length (drop last all) ≤ h.certificates = simp (length-drop, length_words) (omega (arith, w.size)) in
    rw o.is (record {
      create = refl;
      accumulator = refl;
      counter = refl;
      limits = (w.header.pattern_rows_lem.1, w.header.term_rows, w.header.certificates);
      size = omega (arith, w.size);
      pattern = refl;
      terms = rw drop-drop;
      kinds = simp drop-drop;
      objects = simp drop-drop;
      named = simp (drop-drop, add_assoc);
      certificates = simp (drop-drop, add_assoc) (simp add_assoc at (sym (take_all h.certificates (drop last all) rest)));
    })

-- how long they are
length_split : (widths : List ℕ) (number : ℕ) → length (split widths number) ≡ length widths
length_split [] number = refl
length_split (width ∷ widths) number = ap suc (length_split widths number)

length_fields : (widths words : List ℕ) → length (flat_map (split widths) words) ≡ length widths * length words
unfolding flat_map
length_fields widths [] = sym (mul-zero (length widths))
length_fields widths (word ∷ words) = rw (length-append, length_split widths word, length_fields widths words) (omega arith)

pub record Lengths (bytes : List ℕ) (header : Header) : Type 0 where
  pub pattern : length (bundle_in bytes).pattern ≡ header.pattern_rows
  pub terms : length (bundle_in bytes).terms ≡ header.term_rows
  pub kinds : length (bundle_in bytes).kinds ≡ 64
  pub objects : length (bundle_in bytes).objects ≡ 64
  pub named : length (bundle_in bytes).named ≡ 64
  pub certificates : length (bundle_in bytes).certificates ≡ header.certificates

pub lengths : (bytes : List ℕ) (header : Header) → opened bytes ≡ Some header → Lengths bytes header
lengths bytes header e =
    let f = fields bytes header e in
    record {
      pattern = rw f.pattern (long 1 header.pattern_rows (omega (arith, f.size)));
      terms = rw f.terms (long (1 + header.pattern_rows) header.term_rows (omega (arith, f.size)));
      kinds = rw (f.kinds, length_fields (replicate 16 4), long (kinds_at header) 4 (omega (arith, f.size)));
      objects = rw (f.objects, length_fields (replicate 4 16), long (kinds_at header + 4) 16 (omega (arith, f.size)));
      named = rw (f.named, length_fields (replicate 4 16), long (kinds_at header + 20) 16 (omega (arith, f.size)));
      certificates = rw f.certificates (long (kinds_at header + 36) header.certificates (omega (arith, f.size)));
    }
  where
    long : (from count : ℕ) → 8 * (from + count) ≤ length bytes → length (take count (drop from (elements 8 bytes))) ≡ count
    long from count fits = length-take-le count (drop from (elements 8 bytes)) (simp (length-drop, length_words) (omega arith))
