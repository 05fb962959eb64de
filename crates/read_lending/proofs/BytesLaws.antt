-- What comes to lent bytes, one way out of the code after another.
use Prim.Native.Nat.{ℕ, ◌%◌}
use mathlib.Core.Path.{◌≡◌, refl, sym, ◌∙◌, ap}
use mathlib.Core.Bool.{Bool, true, false}
use Rattle.std.specs.Prelude.{Option, None, Some, Result, Ok, Err}
use mathlib.Core.List.{List}
use borrow.Author.Tests.{eq-eqb, ne_eqb}
use lib.Dec.{T, leb}
use lib.ListN.{length, take}
use lib.Seq.{sets}
use Rattle.word.specs.Bytes.{whole, elements, spelled}
use Rattle.word.proofs.ByteLaws.{Below, spelled_elements}
use Rattle.answers.specs.First.{first}
use Rattle.calls.specs.Compile.{written}
use Rattle.lending.specs.Entries.{CompileLeft, compile_spelled}
use Rattle.lending.specs.declared.CompileAnswer.{CompileAnswer}
use Rattle.text.specs.Readers.{text_lines}
use Rattle.code_reading.specs.Reading.{bad_line, read_words, read_into, word_refusals, comes_to, read_code}
use Rattle.code_reading.specs.LineAnswers.{lines_read, looked_of}
use Rattle.code_reading.specs.declared.lines.BadLine as wrong
use Rattle.code_reading.specs.declared.answer.ReadBack.{ReadBack}
use Rattle.code_reading.specs.declared.answer.ReadBack.TheVariants.{BadLine, Limit}
use Rattle.code_reading.proofs.LinesLaws.{all_lines, one_bad}
use Rattle.code_reading.proofs.DeliverLaws.{looked_words, looked_refused, good_lines_read}
use Rattle.read_lending.specs.ReadEntry.{ReadLeft, bytes_kept, read_spelled, bytes_read, read_entry}

-- compile's delivery has the same numbers
abbrev as_read : CompileLeft → ReadLeft
as_read o = record { answer = record { number = o.answer.number; place = o.answer.place }; code = o.code }

same_delivery : (words all : List ℕ) (room : Bool) → leb (length words) (length all) ≡ room → as_read (compile_spelled (written words all)) ≡ read_spelled (read_into words all)
same_delivery words all true e = rw e
same_delivery words all false e = rw e

pub packs : (words all : List ℕ) {answer : CompileAnswer} {after : List ℕ} → record { answer = answer; code = after } ≡ compile_spelled (written words all)
    → record { answer = record { number = answer.number; place = answer.place }; code = after } ≡ read_spelled (read_into words all)
packs words all e = ap as_read e ∙ same_delivery words all (leb (length words) (length all)) refl

-- 1, 9 and 8
module _ (refused : Option ReadBack) (lines : ℕ) (words code : List ℕ) where
  pub not_words : (length code % 4 ≡ 0 → ⊥) → bytes_kept Limit code ≡ bytes_read (whole 4 code) refused (take lines words) code
  not_words odd = rw (ne_eqb (length code % 4) 0 odd)

  module _ (even : length code % 4 ≡ 0) {answer : Result ℕ ReadBack} (says : answer ≡ looked_of lines refused) where
    pub refuses_bytes : {refusal : ReadBack} → answer ≡ Err refusal → bytes_kept refusal code ≡ bytes_read (whole 4 code) refused (take lines words) code
    refuses_bytes e = rw (eq-eqb (length code % 4) 0 even, looked_refused refused lines says e)

    pub fills_bytes : {count : ℕ} {left : ReadLeft} → answer ≡ Ok count → left ≡ read_spelled (read_into (take count words) (elements 4 code))
        → left ≡ bytes_read (whole 4 code) refused (take lines words) code
    fills_bytes e is = let told = looked_words refused says e in is ∙ rw (eq-eqb (length code % 4) 0 even, told.0, told.1)

-- ---- all that is read

module _ (text kinds code : List ℕ) (below : Below 256 code) where
  same_bytes : (is_whole : Bool) → whole 4 code ≡ is_whole → T is_whole → spelled 4 (elements 4 code) ≡ code
  same_bytes is_whole e t = spelled_elements 4 code (rw e t) below

  bad_by : (is_whole : Bool) → whole 4 code ≡ is_whole → {line : ℕ} → bad_line text ≡ Some line → bytes_kept (BadLine line) code ≡ read_entry text kinds code
  unfolding read_entry read_code first
  bad_by true w {line} e = rw (w, e) (ap (λ (bytes : List ℕ). bytes_kept (BadLine line) bytes) (sym (same_bytes true w tt)))
  bad_by false w e = rw (w, e)

  pub bad_line_bytes : {line : ℕ} {answer : Result ℕ wrong.BadLine} → answer ≡ lines_read (bad_line text) (length (text_lines text)) → answer ≡ Err (record { 0 = line })
      → bytes_kept (BadLine line) code ≡ read_entry text kinds code
  bad_line_bytes says e = bad_by (whole 4 code) refl (one_bad (bad_line text) (length (text_lines text)) says e)

  -- words or a refusal, by whether the slice is whole
  over_words : (is_whole : Bool) → whole 4 code ≡ is_whole → (refused : Option ReadBack) (words : List ℕ) → bad_line text ≡ None
      → comes_to refused words (elements 4 code) ≡ read_code text kinds (elements 4 code) → bytes_read is_whole refused words code ≡ read_entry text kinds code
  unfolding read_entry
  over_words false w refused words none_bad same = rw (w, none_bad)
  over_words true w (Some answer) words none_bad same =
      rw (w, ← same) (ap (λ (bytes : List ℕ). bytes_kept answer bytes) (sym (same_bytes true w tt)))
  over_words true w None words none_bad same = rw (w, ← same)

  pub good_lines_bytes : {lines : ℕ} (buffer : List ℕ) {words : List ℕ} {answer : Result ℕ wrong.BadLine} {left : ReadLeft} → answer ≡ lines_read (bad_line text) (length (text_lines text))
      → words ≡ sets buffer 0 (read_words text) → answer ≡ Ok lines → length buffer ≡ 768
      → left ≡ bytes_read (whole 4 code) (first (word_refusals lines (take lines words) kinds)) (take lines words) code → left ≡ read_entry text kinds code
  good_lines_bytes {lines} buffer {words} says kept e long is =
      is
      ∙ over_words (whole 4 code) refl (first (word_refusals lines (take lines words) kinds)) (take lines words) (all_lines (bad_line text) says e).0
      (good_lines_read text kinds (elements 4 code) buffer says kept e long refl)
