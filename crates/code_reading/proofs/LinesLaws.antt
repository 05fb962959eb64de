-- All lines, one after another.
use Prim.Native.Nat.{ℕ, zero, suc, ◌+◌, ◌*◌, ◌-◌, ◌^◌, ◌<◌, ◌≤◌}
use mathlib.Core.Path.{◌≡◌, refl, sym, ◌∙◌, ap}
use mathlib.Core.Bool.{Bool, true, false}
use Rattle.std.specs.Prelude.{Option, None, Some, Result, Ok, Err}
use mathlib.Core.List.{List, [], ◌∷◌, ◌++◌, append_assoc, append-nil}
use native.Mathlib.Nat.{zero-add, add-zero, add-suc, suc-add}
use native.Mathlib.Numerals.{add-one}
use native.Mathlib.Omega.{arith}
use lib.ListN.{length, get_or, set, drop, length-append, length-drop, drop_of_length-le}
use lib.Seq.{sets, length-sets, drop-cons}
use Rattle.word.specs.Lowest.{lowest_from}
use Rattle.word.proofs.ByteLaws.{sets_append}
use Rattle.text.specs.Readers.{front, text_lines}
use Rattle.text.proofs.ReadLineLaws.{joined, lines_joined, line_first, no_lines, some_line}
use Rattle.code_reading.specs.Reading.{read_word, line_word, no_word, bad_line, add_word, line_words, read_words}
use Rattle.code_reading.specs.LineAnswers.{ReadsWord, lines_read}
use Rattle.code_reading.specs.GoodLines.{fields_line, fields_word}
use Rattle.code_reading.specs.declared.lines.BadLine.{BadLine}
use Rattle.code_reading.proofs.GoodLineLaws.{word_printed, Parsed, word_read, fields_word_lem, line_says, ten_bytes}

-- the test for a line that is not good
abbrev pub bad : ℕ → List ℕ → Bool
bad place bytes = no_word (line_word place bytes)

-- ---- what is left of the lines, and its first

pub good_first : (place : ℕ) (bytes : List ℕ) (others : List (List ℕ)) {word : ℕ} → line_word place bytes ≡ Some word
    → (line_words place (bytes ∷ others) ≡ word ∷ line_words (suc place) others) × (lowest_from place bad (bytes ∷ others) ≡ lowest_from (suc place) bad others)
unfolding line_words lowest_from
good_first place bytes others e = (rw (e, line_words), rw (e, lowest_from))

bad_first : (place : ℕ) (bytes : List ℕ) (others : List (List ℕ)) → line_word place bytes ≡ None
    → (line_words place (bytes ∷ others) ≡ []) × (lowest_from place bad (bytes ∷ others) ≡ Some place)
unfolding line_words lowest_from
bad_first place bytes others e = (rw (e, line_words), rw (e, lowest_from))

-- a text that begins with no good line has a first line that is not good
bad_line_first : (place : ℕ) (text : List ℕ) (first : List ℕ) (others : List (List ℕ)) → place < 10 ^ 20 → text_lines text ≡ first ∷ others → read_word place text ≡ None
    → line_word place first ≡ None
bad_line_first place text first others below lines none_read = go (line_word place first) refl
  where
    go : (word : Option ℕ) → line_word place first ≡ word → word ≡ None
    go None e = refl
    go (Some word) e =
        let told = line_says place first below e in
        let whole : text ≡ fields_line place told.fields ++ joined others =
        sym (lines_joined text) ∙ rw (lines) (ap (λ (bytes : List ℕ). bytes ++ joined others) told.printed) in
        let reads : read_word place text ≡ Some (front (fields_word told.fields) (joined others)) = rw whole (word_printed place told.fields (joined others) below) in
        let clash : ◌≡◌ {A = ℕ} 0 1 = cc in
        absurd (omega arith)

-- ---- the loop

pub record LinesLeft (text words₀ words : List ℕ) (lines at : ℕ) : Type 0 where
  pub so_far : List ℕ
  pub kept : words ≡ sets words₀ 0 so_far
  pub counted : length so_far ≡ lines
  pub left_words : read_words text ≡ so_far ++ line_words lines (text_lines (drop at text))
  pub left_bad : bad_line text ≡ lowest_from lines bad (text_lines (drop at text))
  pub left_lines : length (text_lines text) ≡ lines + length (text_lines (drop at text))
  pub tens : 10 * lines ≤ at
  pub inside : at ≤ length text

pub lines_yet : (text words : List ℕ) → LinesLeft text words words 0 0
unfolding bad_line
lines_yet text words = record {
  so_far = [];
  kept = refl;
  counted = refl;
  left_words = refl;
  left_bad = refl;
  left_lines = sym (zero-add (length (text_lines text)));
  tens = omega arith;
  inside = omega arith;
}

module _ {text words₀ words : List ℕ} {lines at : ℕ} (so : LinesLeft text words₀ words lines at) where
  pub same_long : length words ≡ length words₀
  same_long = ap length so.kept ∙ length-sets words₀ 0 so.so_far

  -- ten bytes a line: the lines are few enough for their number
  pub few_lines : at < length text → length text * 1 < 2 ^ 63 → lines ≤ 10 ^ 18
  few_lines more slice = omega (arith, so.tens)

  module _ (more : at < length text) (small : lines ≤ 10 ^ 18) where
    abbrev Answer : Result ℕ BadLine → Type 0
    Answer answer = (answer ≡ lines_read (bad_line text) (length (text_lines text))) × (words ≡ sets words₀ 0 (read_words text))

    pub lines_stop : {answer : Option (ℕ × ℕ)} → ReadsWord text (read_word lines (drop at text)) answer → answer ≡ None → Answer (Err (record { 0 = lines }))
    lines_stop {answer} reads e =
        let none_read : read_word lines (drop at text) ≡ None = rw e at (sym reads.says) in
        let begins : drop at text ≡ get_or text at 0 ∷ drop (suc at) text = drop-cons text at 0 more in
        let first = some_line (get_or text at 0) (drop (suc at) text) in
        let split : text_lines (drop at text) ≡ first.0 ∷ first.1.0 = rw begins first.1.1 in
        let none_there : line_word lines first.0 ≡ None = bad_line_first lines (drop at text) first.0 first.1.0 (omega arith) split none_read in
        let stops = bad_first lines first.0 first.1.0 none_there in
        let lowest : bad_line text ≡ Some lines = so.left_bad ∙ rw split stops.1 in
        let all : read_words text ≡ so.so_far = so.left_words ∙ rw (split, stops.0, append-nil) in
        (rw lowest, so.kept ∙ sym (ap (λ (read : List ℕ). sets words₀ 0 read) all))

    module _ {answer : Option (ℕ × ℕ)} {word next : ℕ} (reads : ReadsWord text (read_word lines (drop at text)) answer) (is : answer ≡ Some (word, next)) where
      line_parsed : Parsed lines (drop at text) (front word (drop next text))
      line_parsed = word_read lines (drop at text) (omega arith) (rw is at (sym reads.says))

      next_inside : next ≤ length text
      next_inside = rw is at reads.inside

      pub lines_further : at + 10 ≤ next
      lines_further =
          let sizes : length text - at ≡ length (fields_line lines line_parsed.fields) + (length text - next) =
          sym (length-drop at text) ∙ ap length line_parsed.bytes ∙ simp (length-append, length-drop) in
          omega (arith, sizes, ten_bytes lines line_parsed.fields, next_inside)

      pub lines_more : LinesLeft text words₀ (set words lines word) (lines + 1) next
      lines_more =
          let first = fields_line lines line_parsed.fields in
          let split : text_lines (drop at text) ≡ first ∷ text_lines (drop next text) = rw line_parsed.bytes (line_first _ (drop next text)) in
          let good : line_word lines first ≡ Some word = fields_word_lem lines line_parsed.fields (omega arith) ∙ ap Some (sym line_parsed.word) in
          let goes = good_first lines first (text_lines (drop next text)) good in
          record {
            so_far = so.so_far ++ (word ∷ []);
            kept = rw (so.kept, ← so.counted) (sym (sets_append words₀ 0 so.so_far (word ∷ []) ∙ rw zero-add));
            counted = length-append so.so_far (word ∷ []) ∙ omega (arith, so.counted);
            left_words = so.left_words ∙ rw (split, goes.0, add-one) (sym (append_assoc so.so_far (word ∷ []) (line_words (suc lines) (text_lines (drop next text)))));
            left_bad = so.left_bad ∙ rw (split, goes.1, add-one);
            left_lines = so.left_lines ∙ rw split (omega arith);
            tens = omega (arith, so.tens, lines_further);
            inside = next_inside;
          }

  pub lines_done : length text ≤ at → (Ok lines ≡ lines_read (bad_line text) (length (text_lines text))) × (words ≡ sets words₀ 0 (read_words text))
  unfolding lowest_from line_words
  lines_done past =
      let empty : text_lines (drop at text) ≡ [] = rw (drop_of_length-le text {i = at} past) no_lines in
      let none_bad : bad_line text ≡ None = so.left_bad ∙ rw empty in
      let count : length (text_lines text) ≡ lines = so.left_lines ∙ rw (empty) (add-zero lines) in
      let all : read_words text ≡ so.so_far = so.left_words ∙ rw (empty) (append-nil so.so_far) in
      (rw (none_bad, count), so.kept ∙ sym (ap (λ (read : List ℕ). sets words₀ 0 read) all))

-- ---- what the answer for all lines says

pub all_lines : (found : Option ℕ) {count lines : ℕ} {answer : Result ℕ BadLine} → answer ≡ lines_read found count → answer ≡ Ok lines → (found ≡ None) × (lines ≡ count)
all_lines None says e = (refl, cc)
all_lines (Some line) says e = let clash : ◌≡◌ {A = ℕ} 0 1 = cc in absurd (omega arith)

pub one_bad : (found : Option ℕ) (count : ℕ) {line : ℕ} {answer : Result ℕ BadLine} → answer ≡ lines_read found count → answer ≡ Err (record { 0 = line }) → found ≡ Some line
one_bad None count says e = let clash : ◌≡◌ {A = ℕ} 0 1 = cc in absurd (omega arith)
one_bad (Some line) count says e = ap Some (ap place_of (sym says ∙ e))
  where
    place_of : Result ℕ BadLine → ℕ
    place_of (Ok lines) = lines
    place_of (Err bad) = bad.0

-- as many words as lines, where all are good
all_words_from : (place : ℕ) (lines : List (List ℕ)) → lowest_from place bad lines ≡ None → length (line_words place lines) ≡ length lines
unfolding line_words lowest_from
all_words_from place [] e = refl
all_words_from place (bytes ∷ rest) e = go (line_word place bytes) (all_words_from (suc place) rest) e
  where
    go : (word : Option ℕ) → (lowest_from (suc place) bad rest ≡ None → length (line_words (suc place) rest) ≡ length rest)
        → ◌≡◌ {A = Option ℕ} (elim (no_word word) [ true ↦ Some place | false ↦ lowest_from (suc place) bad rest ]) None
        → length (add_word word (line_words (suc place) rest)) ≡ suc (length rest)
    go None more e = let clash : ◌≡◌ {A = ℕ} 0 1 = cc in absurd (omega arith)
    go (Some word) more e = ap suc (more e)

pub all_words : (text : List ℕ) → bad_line text ≡ None → length (read_words text) ≡ length (text_lines text)
unfolding bad_line
all_words text e = all_words_from 0 (text_lines text) e

-- the word of each line, where all are good
pub word_of_line : (place : ℕ) (lines : List (List ℕ)) (i : ℕ) → lowest_from place bad lines ≡ None → i < length lines
    → line_word (place + i) (get_or lines i []) ≡ Some (get_or (line_words place lines) i 0)
unfolding line_words lowest_from
word_of_line place [] i e inside = absurd (omega arith)
word_of_line place (bytes ∷ rest) zero e inside = rw add-zero (go (line_word place bytes) e)
  where
    go : (word : Option ℕ) → ◌≡◌ {A = Option ℕ} (elim (no_word word) [ true ↦ Some place | false ↦ lowest_from (suc place) bad rest ]) None
        → word ≡ Some (get_or (add_word word (line_words (suc place) rest)) 0 0)
    go None e = let clash : ◌≡◌ {A = ℕ} 0 1 = cc in absurd (omega arith)
    go (Some word) e = refl
word_of_line place (bytes ∷ rest) (suc i) e inside = go (line_word place bytes) e (λ f. word_of_line (suc place) rest i f (omega arith))
  where
    go : (word : Option ℕ) → ◌≡◌ {A = Option ℕ} (elim (no_word word) [ true ↦ Some place | false ↦ lowest_from (suc place) bad rest ]) None
        → (lowest_from (suc place) bad rest ≡ None → line_word (suc place + i) (get_or rest i []) ≡ Some (get_or (line_words (suc place) rest) i 0))
        → line_word (place + suc i) (get_or rest i []) ≡ Some (get_or (add_word word (line_words (suc place) rest)) (suc i) 0)
    go None e more = let clash : ◌≡◌ {A = ℕ} 0 1 = cc in absurd (omega arith)
    go (Some word) e more = rw (add-suc, ← suc-add) (more e)
