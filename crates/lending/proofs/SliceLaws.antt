-- The slices that run and round are lent as bytes: lengths that fit.
use Prim.Native.Nat.{ℕ, ◌*◌, ◌/◌, ◌%◌, ◌≤◌}
use mathlib.Core.Path.{◌≡◌}
use mathlib.Core.Bool.{Bool, ◌&&◌}
use mathlib.Core.List.{List}
use native.Mathlib.Omega.{arith}
use lib.Dec.{T, eqb, leb}
use lib.ListN.{length}
use Rattle.word.specs.Bytes.{elements}
use Rattle.word.proofs.ByteLaws.{length_words}
use Rattle.word.proofs.TestLaws.{both, equals, at_most}
use Rattle.numbers.specs.Limits.{variables, message_cells, most_term_rows, most_certificates}
use Rattle.lending.specs.Entries.{slices_whole}

module _ (objects messages certificates terms code : List ℕ) (most : ℕ) where
  abbrev pub slices_fit : Bool
  slices_fit =
      eqb (length objects) (2 * variables) && eqb (length messages) (2 * message_cells) && eqb (length certificates % 8) 0
      && leb (length certificates) (8 * most_certificates) && eqb (length terms % 8) 0 && leb (length terms) (8 * most_term_rows)
      && eqb (length code % 4) 0 && leb (length code / 4) most

  -- whole elements, for which there is room
  pub record Fitting : Type 0 where
    pub all_whole : T (slices_whole objects messages certificates terms code)
    pub object_bytes : length objects ≡ 2 * variables
    pub message_bytes : length messages ≡ 2 * message_cells
    pub few_certificates : length certificates / 8 ≤ most_certificates
    pub row_bytes : length terms ≡ 8 * (length terms / 8)
    pub few_rows : length terms / 8 ≤ most_term_rows
    pub few_words : length code / 4 ≤ most

  pub fitting : T slices_fit → Fitting
  fitting h =
      let t = simp (both, equals, at_most) at h in
      record {
        all_whole = simp (both, equals) ((((omega (arith, t.0.0.0.0.0.0.0), omega (arith, t.0.0.0.0.0.0.1)), t.0.0.0.0.0.1), t.0.0.0.1), t.0.1);
        object_bytes = t.0.0.0.0.0.0.0;
        message_bytes = t.0.0.0.0.0.0.1;
        few_certificates = omega (arith, t.0.0.0.0.1);
        row_bytes = omega (arith, t.0.0.0.1);
        few_rows = omega (arith, t.0.0.1);
        few_words = t.1;
      }

  -- elements within the limits are bytes that fit
  pub refits : T (slices_whole objects messages certificates terms code) → length (elements 2 objects) ≡ variables → length (elements 2 messages) ≡ message_cells
      → length (elements 8 certificates) ≤ most_certificates → length (elements 8 terms) ≤ most_term_rows → length (elements 4 code) ≤ most → T slices_fit
  refits =
      simp (both, equals, at_most, length_words) λ w o m c t q.
      (((((((omega (arith, w.0.0.0.0, o), omega (arith, w.0.0.0.1, m)), w.0.0.1), omega (arith, w.0.0.1, c)), w.0.1), omega (arith, w.0.1, t)), w.1), q)
