-- A role over lent bytes: lengths that fit, and an outcome in numbers and bytes.
use mathlib.Core.Path.{◌≡◌, sym, ◌∙◌, ap}
use mathlib.Core.Bool.{Bool, true, false, ◌&&◌}
use mathlib.Core.List.{List, ◌++◌}
use Prim.Native.Nat.{ℕ, ◌*◌, ◌/◌, ◌%◌, ◌≤◌}
use native.Mathlib.Omega.{arith}
use lib.Dec.{T, eqb, leb}
use lib.ListN.{length, drop}
use Rattle.word.specs.Bytes.{elements, spelled}
use Rattle.word.proofs.ByteLaws.{Below, length_words, spelled_elements}
use Rattle.word.proofs.TestLaws.{both, equals, is_true, is_false}
use Rattle.numbers.specs.Limits.{variables, most_rounds}
use Rattle.answers.specs.declared.Compiled.{Compiled}
use Rattle.calls.specs.Role.{RoleLent, RoleOutcome, sum, role_fits, role}
use Rattle.looking.proofs.LookLaws.{true_holds}
use Rattle.lending.proofs.ChoiceLaws.{where_true, either_way}
use Rattle.role_counting.proofs.LengthLaws.{RoleWithin}
use Rattle.roles.proofs.AnswerLaws.{role_limit, fits_within, fits_sum}
use Rattle.role_lending.proofs.BytesLaws.{laid_bytes}
use Rattle.role_lending.specs.RoleEntry.{role_numbers, role_spelled, role_elements, role_untouched, role_whole, role_entry}

module _ (ends code : List ℕ) (x : RoleLent) where
  abbrev pub bytes_fit : Bool
  bytes_fit =
      eqb (length x.rows % 8) 0 && eqb (length x.objects) (2 * variables) && eqb (length x.named) (2 * variables)
      && eqb (length ends % 2) 0
      && eqb (length code % 4) 0

  abbrev pub elements_fit : Bool
  elements_fit = role_fits (elements 2 ends) (elements 4 code) (role_elements x)

  abbrev outcome : RoleOutcome
  outcome = role (elements 2 ends) (elements 4 code) (role_elements x)

  abbrev pub counts_fit : Bool
  counts_fit =
      eqb (length x.counts % 2) 0 && leb 1 (length x.counts / 2) && leb (length x.counts / 2) most_rounds
      && eqb (length x.kinds) variables && eqb (length x.objects / 2) variables && eqb (length x.named / 2) variables
      && eqb (length ends / 2) (length x.counts / 2) && eqb (sum x.counts) (length x.rows / 8)

  end_count : length (elements 2 ends) ≡ length ends / 2
  end_count = length_words 2 (length ends / 2) ends

  -- the lengths of the bytes say whether the elements fit
  pub fits_bytes : elements_fit ≡ counts_fit
  fits_bytes = rw (length_words 2 (length x.objects / 2) x.objects, length_words 2 (length x.named / 2) x.named, end_count, length_words 8 (length x.rows / 8) x.rows)

  -- whole elements, and as many cells as there are variables
  pub record Fitting : Type 0 where
    pub all_whole : T (role_whole ends code x)
    pub object_bytes : length x.objects ≡ 2 * variables
    pub named_bytes : length x.named ≡ 2 * variables
    pub ends_whole : length ends % 2 ≡ 0
    pub code_whole : length code % 4 ≡ 0

  pub fitting : bytes_fit ≡ true → Fitting
  fitting e =
      let t = simp (both, equals) at (true_holds e) in
      record {
        all_whole = simp (both, equals) ((((t.0.0.0.0, omega (arith, t.0.0.0.1)), omega (arith, t.0.0.1)), t.0.1), t.1);
        object_bytes = t.0.0.0.1;
        named_bytes = t.0.0.1;
        ends_whole = t.0.1;
        code_whole = t.1;
      }

  -- both tests say that the role fits
  pub record Tested : Type 0 where
    pub bytes : Fitting
    pub all_fit : elements_fit ≡ true
    pub counts_even : length x.counts % 2 ≡ 0
    pub counts_few : length x.counts / 2 ≤ most_rounds
    pub two_bytes_an_end : length ends ≡ 2 * (length x.counts / 2)
    pub all_rows : sum x.counts ≡ length (elements 8 x.rows)
    pub word_count : length (elements 4 code) ≡ length code / 4

  pub tested : bytes_fit ≡ true → counts_fit ≡ true → Tested
  tested b c =
      let bytes = fitting b in
      let fits = fits_bytes ∙ c in
      let lengths : RoleWithin (length x.counts) (length x.kinds) (length (elements 2 x.objects)) (length (elements 2 x.named)) (length (elements 2 ends)) =
      fits_within (elements 2 ends) (elements 4 code) (role_elements x) fits in
      record {
        bytes = bytes;
        all_fit = fits;
        counts_even = lengths.even;
        counts_few = lengths.few;
        two_bytes_an_end = omega (arith, lengths.ends_length, end_count, bytes.ends_whole);
        all_rows = fits_sum (elements 2 ends) (elements 4 code) (role_elements x) fits;
        word_count = length_words 4 (length code / 4) code;
      }

  module _ (ends_below : Below 256 ends) (code_below : Below 256 code) where
    -- what an outcome leaves as bytes
    module _ (all_whole : T (role_whole ends code x)) where
      ends_same : spelled 2 (elements 2 ends) ≡ ends
      ends_same = spelled_elements 2 ends (simp both at all_whole).0.1 ends_below

      code_same : spelled 4 (elements 4 code) ≡ code
      code_same = spelled_elements 4 code (simp both at all_whole).1 code_below

      kept : {answer : Compiled} {half : ℕ} → record { answer = answer; half = half; ends = elements 2 ends; code = elements 4 code } ≡ outcome
          → record { answer = role_numbers answer half; ends = ends; code = code } ≡ role_spelled outcome
      kept {answer} {half} h = (λ i. record { answer = role_numbers answer half; ends = sym ends_same i; code = sym code_same i }) ∙ ap role_spelled h

    module _ (f : Fitting) where
      -- words in front of the code
      pub laid_words : (words : List ℕ) → spelled 4 words ++ drop (length (spelled 4 words)) code ≡ spelled 4 (words ++ drop (length words) (elements 4 code))
      laid_words words = laid_bytes 4 words code (code_same f.all_whole)

      entry : role_spelled outcome ≡ role_entry ends code x
      unfolding role_entry
      entry = where_true (role_whole ends code x) (role_spelled outcome) (role_untouched ends code x) f.all_whole

      pub entry_kept : {answer : Compiled} {half : ℕ} → record { answer = answer; half = half; ends = elements 2 ends; code = elements 4 code } ≡ outcome
          → record { answer = role_numbers answer half; ends = ends; code = code } ≡ role_entry ends code x
      entry_kept h = kept f.all_whole h ∙ entry

      pub entry_written : {answer : Compiled} {half : ℕ} {ends' code' numbers words : List ℕ}
          → record { answer = answer; half = half; ends = numbers; code = words } ≡ outcome → ends' ≡ spelled 2 numbers → code' ≡ spelled 4 words
          → record { answer = role_numbers answer half; ends = ends'; code = code' } ≡ role_entry ends code x
      entry_written {answer} {half} h e c = (λ i. record { answer = role_numbers answer half; ends = e i; code = c i }) ∙ ap role_spelled h ∙ entry

    -- elements that fit are bytes that fit
    refits : T (role_whole ends code x) → elements_fit ≡ true → T bytes_fit
    refits whole e =
        let w = simp (both, equals) at whole in
        let l : RoleWithin (length x.counts) (length x.kinds) (length (elements 2 x.objects)) (length (elements 2 x.named)) (length (elements 2 ends)) =
        fits_within (elements 2 ends) (elements 4 code) (role_elements x) e in
        simp (both, equals) (
          (
            (
              (w.0.0.0.0, omega (arith, w.0.0.0.1, l.objects_length, length_words 2 (length x.objects / 2) x.objects)),
              omega (arith, w.0.0.1, l.named_length, length_words 2 (length x.named / 2) x.named),
            ),
            w.0.1,
          ),
          w.1,
        )

    -- 1, of whole elements or not
    pub entry_limit : bytes_fit ≡ false → role_untouched ends code x ≡ role_entry ends code x
    unfolding role_entry
    entry_limit e = either_way (role_whole ends code x) (role_spelled outcome) (role_untouched ends code x) λ w.
        kept w (role_limit (elements 2 ends) (elements 4 code) (role_elements x) (is_false elements_fit λ t. rw e at (refits w (is_true elements_fit t))))
