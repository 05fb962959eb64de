-- Code lines read back over bytes: as over the words that they spell, and 15 or 1 of bytes that are not whole words.
use Prim.Native.Nat.{ℕ, ◌%◌}
use mathlib.Core.Path.{◌≡◌, refl, ◌∙◌, ap}
use mathlib.Core.Logic.Iff
use mathlib.Core.Logic.{◌↔◌, ◌≢◌}
use mathlib.Core.Bool.{Bool, true, false}
use Rattle.std.specs.Prelude.{Option, None, Some}
use mathlib.Core.List.{List}
use native.Mathlib.Omega.{arith}
use borrow.Author.Tests.{eq-eqb, ne_eqb}
use lib.ListN.{length}
use Rattle.word.specs.Bytes.{whole, elements, spelled}
use Rattle.word.proofs.ByteLaws.{spelled_elements}
use Rattle.code_reading.specs.ReadBackNumbers.{read_back_number, read_back_place}
use Rattle.code_reading.specs.Reading.{bad_line, read_code}
use Rattle.code_reading.proofs.ReadTableLaws.{bad_line_iff, good_lines_iff, read_kept}
use Rattle.read_lending.specs.ReadEntry.{not_whole, read_entry}
use Rattle.promises.specs.ForC.{Bytes, Whole}
use Rattle.promises.specs.Readings.{LentText, ReadsAs}
use Rattle.promises.specs.ReadingsForC.{ReadComes, ReadingsForC}
use Rattle.promises.proofs.ForC.{below}

-- what is answered of bytes that are not whole words
not_whole_15 : (found : Option ℕ) (line : ℕ) → ((read_back_number (not_whole found) ≡ 15) × (read_back_place (not_whole found) ≡ line)) ↔ (found ≡ Some line)
not_whole_15 None line = (λ h. absurd (omega (arith, h.0)), λ e. let clash : ◌≡◌ {A = ℕ} 0 1 = cc in absurd (omega arith))
not_whole_15 (Some found) line = (λ h. ap Some h.1, λ e. (refl, cc))

not_whole_1 : (found : Option ℕ) → ((read_back_number (not_whole found) ≡ 1) × (read_back_place (not_whole found) ≡ 0)) ↔ (found ≡ None)
not_whole_1 None = (λ h. refl, λ e. (refl, refl))
not_whole_1 (Some line) = (λ h. absurd (omega (arith, h.0)), λ e. let clash : ◌≡◌ {A = ℕ} 0 1 = cc in absurd (omega arith))

not_whole_0 : (found : Option ℕ) → read_back_number (not_whole found) ≢ 0
not_whole_0 None e = omega arith
not_whole_0 (Some line) e = omega arith

module _ (text kinds code : List ℕ) (lent : LentText text) where
  of_words : Whole 4 code → (number place : ℕ) → ReadComes text kinds code number place ↔ ReadsAs (read_code text kinds (elements 4 code)) number place
  unfolding read_entry
  of_words w number place = rw (eq-eqb (length code % 4) 0 w) Iff.rfl

  bad_line_lem : (Whole 4 code → ⊥) → (line : ℕ) → ReadComes text kinds code 15 line ↔ (bad_line text ≡ Some line)
  unfolding read_entry
  bad_line_lem n line = rw (ne_eqb (length code % 4) 0 n) (not_whole_15 (bad_line text) line)

  not_words : (Whole 4 code → ⊥) → ReadComes text kinds code 1 0 ↔ (bad_line text ≡ None)
  unfolding read_entry
  not_words n = rw (ne_eqb (length code % 4) 0 n) (not_whole_1 (bad_line text))

  no_other : (Whole 4 code → ⊥) → (read_entry text kinds code).answer.number ≢ 0
  unfolding read_entry
  no_other n = rw (ne_eqb (length code % 4) 0 n) (not_whole_0 (bad_line text))

  read : Whole 4 code → (read_entry text kinds code).code ≡ spelled 4 (read_code text kinds (elements 4 code)).code
  unfolding read_entry
  read w = rw (eq-eqb (length code % 4) 0 w)

  left_by : (is_whole : Bool) → whole 4 code ≡ is_whole → Bytes code → (read_entry text kinds code).answer.number ≢ 0 → (read_entry text kinds code).code ≡ code
  unfolding read_entry
  left_by true w bytes = rw w λ nonzero.
      ap (spelled 4) (read_kept text kinds (elements 4 code) nonzero) ∙ spelled_elements 4 code (rw w tt) (below code bytes)
  left_by false w bytes = rw w λ nonzero. refl

  pub readings_for_c : ReadingsForC text kinds code
  readings_for_c = record {
    of_words = of_words;
    bad_line_lem = λ n line. Iff.trans (bad_line_lem n line) (bad_line_iff text lent line);
    not_words = λ n. Iff.trans (not_words n) (good_lines_iff text lent);
    no_other = no_other;
    read = read;
    left = left_by (whole 4 code) refl;
  }
