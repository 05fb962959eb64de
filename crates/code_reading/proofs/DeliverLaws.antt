-- 1 and 9 of so many words, then 8, and all that is read.
use Prim.Native.Nat.{ℕ, ◌+◌, ◌<◌, ◌≤◌}
use mathlib.Core.Path.{◌≡◌, refl, sym, ◌∙◌}
use mathlib.Core.Logic.{◌⊎◌, inl, inr}
use Rattle.std.specs.Prelude.{Option, None, Some, Result, Ok, Err}
use mathlib.Core.List.{List, ◌++◌}
use native.Mathlib.Omega.{arith}
use borrow.Author.Tests.{le-leb, lt-leb, eq-eqb, ne_eqb}
use lib.ListN.{length, take, drop}
use lib.Seq.{sets, sets-eq, take_at}
use Rattle.word.proofs.ScanLaws.{lt_or_ge}
use Rattle.numbers.specs.Kinds.{kind_in}
use Rattle.answers.specs.First.{first}
use Rattle.code.specs.Words.{bad_word}
use Rattle.text.specs.Readers.{text_lines}
use Rattle.code_reading.specs.Reading.{bad_line, read_words, ReadOutcome, read_leaves, read_into, word_refusals, comes_to, read_code}
use Rattle.code_reading.specs.LineAnswers.{lines_read, looked_of}
use Rattle.code_reading.specs.declared.answer.ReadBack.{ReadBack}
use Rattle.code_reading.specs.declared.lines.BadLine as wrong
use Rattle.code_reading.specs.declared.answer.ReadBack.TheVariants.{Done, BadLine, Limit, BadWord, CodeTooShort}
use Rattle.code_reading.proofs.LinesLaws.{all_lines, one_bad, all_words}

module _ (lines : ℕ) (words kinds : List ℕ) where
  abbrev refusal : Option ReadBack
  refusal = first (word_refusals lines words kinds)

  too_many : 768 < lines → refusal ≡ Some Limit
  unfolding first
  too_many many = rw (lt-leb lines 768 many)

  pub too_many_lines : 768 < lines → Err Limit ≡ looked_of lines refusal
  too_many_lines many = rw (too_many many)

  module _ (few : lines ≤ 768) where
    pub kinds_limit : (length kinds ≡ 64 → ⊥) → Err Limit ≡ looked_of lines refusal
    unfolding first
    kinds_limit other = rw (le-leb lines 768 few, ne_eqb (length kinds) 64 other)

    module _ (long : length kinds ≡ 64) where
      pub bad_word_found : {word : ℕ} → bad_word (kind_in kinds) words ≡ Some word → Err (BadWord word) ≡ looked_of lines refusal
      unfolding first
      bad_word_found e = rw (le-leb lines 768 few, eq-eqb (length kinds) 64 long, e)

      pub words_found : bad_word (kind_in kinds) words ≡ None → Ok lines ≡ looked_of lines refusal
      unfolding first
      words_found good = rw (le-leb lines 768 few, eq-eqb (length kinds) 64 long, good)

  -- not too many, where nothing is refused
  few_lines : refusal ≡ None → lines ≤ 768
  few_lines e = go (lt_or_ge 768 lines)
    where
      go : (768 < lines) ⊎ (lines ≤ 768) → lines ≤ 768
      go (inl many) = let clash : ◌≡◌ {A = ℕ} 0 1 = cc (too_many many) in absurd (omega arith)
      go (inr few) = few

-- what the answer says
pub looked_words : (refused : Option ReadBack) {lines count : ℕ} {answer : Result ℕ ReadBack} → answer ≡ looked_of lines refused → answer ≡ Ok count → (refused ≡ None) × (count ≡ lines)
looked_words None says e = (refl, cc)
looked_words (Some refusal) says e = let clash : ◌≡◌ {A = ℕ} 0 1 = cc in absurd (omega arith)

-- words that are not refused stand in the buffer
pub found_fits : (lines : ℕ) (words kinds : List ℕ) {count : ℕ} {answer : Result ℕ ReadBack} → 768 ≤ length words → answer ≡ looked_of lines (first (word_refusals lines (take lines words) kinds))
    → answer ≡ Ok count → (count ≤ 768) × (count ≤ length words)
found_fits lines words kinds room says e =
    let told = looked_words (first (word_refusals lines (take lines words) kinds)) says e in
    let few = few_lines lines (take lines words) kinds told.0 in
    (omega (arith, told.1, few), omega (arith, told.1, few))

pub looked_refused : (refused : Option ReadBack) (lines : ℕ) {refusal : ReadBack} {answer : Result ℕ ReadBack} → answer ≡ looked_of lines refused → answer ≡ Err refusal → refused ≡ Some refusal
looked_refused None lines says e = let clash : ◌≡◌ {A = ℕ} 0 1 = cc in absurd (omega arith)
looked_refused (Some refusal) lines says e = cc

-- 8, and words that fit
module _ (words code : List ℕ) where
  pub fill_short : length code < length words → read_leaves (CodeTooShort (length words)) code ≡ read_into words code
  fill_short less = rw (lt-leb (length words) (length code) less)

  pub fill_fits : {after : List ℕ} → length words ≤ length code → after ≡ words ++ drop (length words) code → read_leaves (Done (length words)) after ≡ read_into words code
  fill_fits most same = rw (le-leb (length words) (length code) most, same)

-- and both together
module _ (refused : Option ReadBack) (lines : ℕ) (words code : List ℕ) {answer : Result ℕ ReadBack} (says : answer ≡ looked_of lines refused) where
  pub delivers_refusal : {refusal : ReadBack} → answer ≡ Err refusal → read_leaves refusal code ≡ comes_to refused (take lines words) code
  delivers_refusal e = rw (looked_refused refused lines says e)

  pub delivers_words : {count : ℕ} {out : ReadOutcome} → answer ≡ Ok count → out ≡ read_into (take count words) code → out ≡ comes_to refused (take lines words) code
  delivers_words e is = let told = looked_words refused says e in is ∙ rw (told.0, told.1)

-- ---- all that is read

module _ (text kinds code : List ℕ) where
  pub bad_line_read : {line : ℕ} {answer : Result ℕ wrong.BadLine} → answer ≡ lines_read (bad_line text) (length (text_lines text)) → answer ≡ Err (record { 0 = line })
      → read_leaves (BadLine line) code ≡ read_code text kinds code
  unfolding read_code first
  bad_line_read says e = rw (one_bad (bad_line text) (length (text_lines text)) says e)

  -- the words that the buffer has are those of the lines, unless there are too many
  module _ {lines : ℕ} (buffer : List ℕ) {words : List ℕ} (none_bad : bad_line text ≡ None) (count : lines ≡ length (text_lines text)) (long : length buffer ≡ 768)
      (kept : words ≡ sets buffer 0 (read_words text)) where
    words_there : lines ≤ 768 → take lines words ≡ read_words text
    words_there few =
        let as_many : length (read_words text) ≡ lines = all_words text none_bad ∙ sym count in
        let laid : sets buffer 0 (read_words text) ≡ read_words text ++ drop (0 + length (read_words text)) buffer = sets-eq (read_words text) buffer 0 (omega (arith, as_many, long)) in
        rw (kept, laid) (take_at (read_words text) (drop (0 + length (read_words text)) buffer) lines as_many)

    same_outcome : (768 < lines) ⊎ (lines ≤ 768)
        → comes_to (first (word_refusals lines (take lines words) kinds)) (take lines words) code ≡ comes_to (first (word_refusals lines (read_words text) kinds)) (read_words text) code
    same_outcome (inl many) = rw (too_many lines (take lines words) kinds many, too_many lines (read_words text) kinds many)
    same_outcome (inr few) = rw (words_there few)

    same_read : {out : ReadOutcome} → out ≡ comes_to (first (word_refusals lines (take lines words) kinds)) (take lines words) code → out ≡ read_code text kinds code
    unfolding read_code first
    same_read is = is ∙ same_outcome (lt_or_ge 768 lines) ∙ rw (none_bad, count)

  pub good_lines_read : {lines : ℕ} (buffer : List ℕ) {words : List ℕ} {answer : Result ℕ wrong.BadLine} {out : ReadOutcome} → answer ≡ lines_read (bad_line text) (length (text_lines text))
      → words ≡ sets buffer 0 (read_words text) → answer ≡ Ok lines → length buffer ≡ 768
      → out ≡ comes_to (first (word_refusals lines (take lines words) kinds)) (take lines words) code → out ≡ read_code text kinds code
  good_lines_read buffer says kept e long is = let all = all_lines (bad_line text) says e in same_read buffer all.0 all.1 long kept is
