-- Code lines read back: the table of their numbers, and both ways round.
use Prim.Native.Nat.{ℕ, suc, ◌+◌, ◌/◌, ◌%◌, ◌^◌, ◌<◌, ◌≤◌}
use mathlib.Core.Path.{◌≡◌, refl, sym, ◌∙◌, ap}
use mathlib.Core.Logic.Iff
use mathlib.Core.Logic.{◌↔◌}
use mathlib.Core.Bool.{true, false, ◌&&◌}
use Rattle.std.specs.Prelude.{Option, None, Some}
use mathlib.Core.List.{List, [], ◌∷◌, ◌++◌}
use native.Mathlib.Nat.{zero-add}
use native.Mathlib.Omega.{arith}
use borrow.Author.Tests.{le-leb, eq-eqb}
use lib.Dec.{T, eqb, leb}
use lib.ListN.{length, get_or, take, drop}
use lib.Seq.{take_at}
use Rattle.word.specs.Fields.{split}
use Rattle.word.specs.Lowest.{lowest_from}
use Rattle.word.proofs.All.{All}
use Rattle.word.proofs.FieldLaws.{join_split}
use Rattle.numbers.specs.Kinds.{kind_in}
use Rattle.answers.specs.First.{first}
use Rattle.code.specs.Instruction.{word_widths, word_of}
use Rattle.code.specs.GoodWords.{GoodWord, AllGoodWords}
use Rattle.code.specs.declared.Instruction.{Instruction}
use Rattle.code.specs.declared.Instruction.TheVariants.{Load, Store, StoreConst, Decode, Encode, Create, AnalyzeTuple, CreateTuple, Opposite, KeyOf, Match, Encrypt, Decrypt, Sign, Verify, Hash}
use Rattle.code.proofs.WordLaws.{bad_word_iff, no_bad_word_iff}
use Rattle.text.specs.Lines.{line}
use Rattle.text.specs.Readers.{text_lines}
use Rattle.text.proofs.ReadLineLaws.{joined, lines_joined, line_first, no_lines}
use Rattle.printing.specs.Listing.{code_lines}
use Rattle.code_reading.specs.ReadBackNumbers.{read_back_number, read_back_place}
use Rattle.code_reading.specs.Reading.{line_word, no_word, bad_line, add_word, line_words, read_words, read_leaves, read_code}
use Rattle.code_reading.specs.GoodLines.{CodeFields, fields_line, fields_word, GoodLine, AllGoodLines}
use Rattle.code_reading.specs.declared.answer.ReadBack.TheVariants.{Done}
use Rattle.code_reading.proofs.GoodLineLaws.{fields_word_lem, line_says}
use Rattle.code_reading.proofs.LinesLaws.{bad, good_first, all_words, word_of_line}
use Rattle.code_reading.proofs.ReadTableLaws.{lines_few, bad_line_iff, good_lines_iff, Passed, comes_iff, fits_iff, read_kept, read_words_lem}
use Rattle.promises.specs.Readings.{LentText, LinesWithin, Readable, ReadingTable, RoundTrips}

-- ---- the table

module _ (text kinds code : List ℕ) (lent : LentText text) where
  within : LinesWithin text kinds ↔ ((length (text_lines text) ≤ 768) × (length kinds ≡ 64))
  within = (λ w. (w.few_lines, w.all_kinds), λ h. record { few_lines = h.0; all_kinds = h.1 })

  readable : bad_line text ≡ None → T (leb (length (text_lines text)) 768 && eqb (length kinds) 64) → Readable text kinds
  readable none_bad fits = record { lines = (good_lines_iff text lent).0 none_bad; within = within.1 ((fits_iff text kinds code).0 fits) }

  passed : Passed text kinds code ↔ (Readable text kinds × AllGoodWords (kind_in kinds) (read_words text))
  passed = (
    λ p. (readable p.0 p.1, (no_bad_word_iff (kind_in kinds) (read_words text)).0 p.2),
    λ h. ((good_lines_iff text lent).1 h.0.lines, (fits_iff text kinds code).1 (within.0 h.0.within), (no_bad_word_iff (kind_in kinds) (read_words text)).1 h.1),
  )

  as_many : Readable text kinds → length (read_words text) ≡ length (text_lines text)
  as_many r = all_words text ((good_lines_iff text lent).1 r.lines)

  spelled : (i : ℕ) → AllGoodLines text → i < length (text_lines text) → (line : GoodLine i (get_or (text_lines text) i [])) → get_or (read_words text) i 0 ≡ fields_word line.fields
  unfolding bad_line
  spelled i good inside line =
      let none_bad : lowest_from 0 bad (text_lines text) ≡ None = (good_lines_iff text lent).1 good in
      let says : line_word i (get_or (text_lines text) i []) ≡ Some (get_or (read_words text) i 0) = rw zero-add at (word_of_line 0 (text_lines text) i none_bad inside) in
      let own : line_word i (get_or (text_lines text) i []) ≡ Some (fields_word line.fields) = rw line.printed (fields_word_lem i line.fields (omega (arith, lines_few text))) in
      cc

  pub reading_table : ReadingTable text kinds code
  reading_table = record {
    bad_line_lem = λ line. Iff.trans (comes_iff text kinds code 15 line refl refl) (bad_line_iff text lent line);
    limit = Iff.trans (comes_iff text kinds code 1 0 refl refl) (
      λ h. ((good_lines_iff text lent).0 h.0, λ w. h.1 ((fits_iff text kinds code).1 (within.0 w))),
      λ h. ((good_lines_iff text lent).1 h.0, λ t. h.1 (within.1 ((fits_iff text kinds code).0 t))),
    );
    bad_word = λ word. Iff.trans (comes_iff text kinds code 9 word refl refl) (
      λ h. (readable h.0 h.1, (bad_word_iff (kind_in kinds) (read_words text) word).0 h.2),
      λ h. ((good_lines_iff text lent).1 h.0.lines, (fits_iff text kinds code).1 (within.0 h.0.within), (bad_word_iff (kind_in kinds) (read_words text) word).1 h.1),
    );
    too_short = λ words. Iff.trans (comes_iff text kinds code 8 words refl refl) (
      λ h. let p = passed.0 h.0 in (p.0, p.1, h.1 ∙ as_many p.0, omega (arith, h.1, h.2)),
      λ h. (passed.1 (h.0, h.1), h.2 ∙ sym (as_many h.0), omega (arith, h.2, h.3, as_many h.0)),
    );
    done = λ words. Iff.trans (comes_iff text kinds code 0 words refl refl) (
      λ h. let p = passed.0 h.0 in (p.0, p.1, h.1 ∙ as_many p.0, omega (arith, h.1, h.2)),
      λ h. (passed.1 (h.0, h.1), h.2 ∙ sym (as_many h.0), omega (arith, h.2, h.3, as_many h.0)),
    );
    word_a_line = λ good. all_words text ((good_lines_iff text lent).1 good);
    spells = spelled;
    read = read_words_lem text kinds code;
    left = read_kept text kinds code;
  }

-- ---- a word and its fields

fields_split : (f : CodeFields) → take 4 (split word_widths (fields_word f)) ≡ f.operation ∷ f.a ∷ f.b ∷ f.n ∷ []
fields_split f =
    let word : ℕ = fields_word f in
    let is_operation : word / 134217728 % 32 ≡ f.operation = omega (arith, f.operation_fits, f.a_fits, f.b_fits, f.n_fits) in
    let is_a : word / 524288 % 256 ≡ f.a = omega (arith, f.operation_fits, f.a_fits, f.b_fits, f.n_fits) in
    let is_b : word / 2048 % 256 ≡ f.b = omega (arith, f.operation_fits, f.a_fits, f.b_fits, f.n_fits) in
    let is_n : word / 256 % 8 ≡ f.n = omega (arith, f.operation_fits, f.a_fits, f.b_fits, f.n_fits) in
    rw (is_operation, is_a, is_b, is_n)

-- the fields of any word
abbrev fields_in : ℕ → CodeFields
fields_in word = record {
  operation = word / 134217728 % 32;
  a = word / 524288 % 256;
  b = word / 2048 % 256;
  n = word / 256 % 8;
  operation_fits = omega arith;
  a_fits = omega arith;
  b_fits = omega arith;
  n_fits = omega arith;
}

-- no instruction has a bit below its fields
low_zero : (instruction : Instruction) → word_of instruction % 256 ≡ 0
unfolding word_of
low_zero (Load r) = omega arith
low_zero (Store r) = omega arith
low_zero (StoreConst c byte) = omega arith
low_zero (Decode v) = omega arith
low_zero (Encode v) = omega arith
low_zero (Create v) = omega arith
low_zero (AnalyzeTuple t first n) = omega arith
low_zero (CreateTuple t first n) = omega arith
low_zero (Opposite private public) = omega arith
low_zero KeyOf = omega arith
low_zero (Match r) = omega arith
low_zero (Encrypt v) = omega arith
low_zero (Decrypt v) = omega arith
low_zero (Sign v) = omega arith
low_zero (Verify v r) = omega arith
low_zero (Hash h) = omega arith

own_word : (kind : ℕ → ℕ) (word : ℕ) → word < 2 ^ 32 → GoodWord kind word → fields_word (fields_in word) ≡ word
own_word kind word small good =
    let low : word % 256 ≡ 0 = rw good.own at (low_zero good.instruction) in
    let last : word / 1 % 256 ≡ 0 = omega arith in
    omega (arith, join_split word_widths word small)

-- ---- what is printed is read

record ReadsBack (place : ℕ) (code : List ℕ) : Type 0 where
  words : line_words place (text_lines (code_lines place code)) ≡ code
  no_bad : lowest_from place bad (text_lines (code_lines place code)) ≡ None
  lines : length (text_lines (code_lines place code)) ≡ length code

reads_back : (place : ℕ) (code : List ℕ) → place + length code < 10 ^ 20 → All (λ word. fields_word (fields_in word) ≡ word) code → ReadsBack place code
unfolding code_lines line_words lowest_from
reads_back place [] below own = record { words = rw no_lines; no_bad = rw no_lines; lines = rw no_lines }
reads_back place (word ∷ rest) below own =
    let more = reads_back (suc place) rest (omega arith) own.1 in
    let first = fields_line place (fields_in word) in
    let split_off : text_lines (code_lines place (word ∷ rest)) ≡ first ∷ text_lines (code_lines (suc place) rest) = line_first _ (code_lines (suc place) rest) in
    let says : line_word place first ≡ Some word = fields_word_lem place (fields_in word) (omega arith) ∙ ap Some own.0 in
    let goes = good_first place first (text_lines (code_lines (suc place) rest)) says in
    record {
      words = rw split_off (goes.0 ∙ ap (λ (words : List ℕ). word ∷ words) more.words);
      no_bad = rw split_off (goes.1 ∙ more.no_bad);
      lines = rw split_off (ap suc more.lines);
    }

-- each word by its place
owns : (kind : ℕ → ℕ) (code : List ℕ) → All (λ word. word < 2 ^ 32) code → ((i : ℕ) → i < length code → GoodWord kind (get_or code i 0)) → All (λ word. fields_word (fields_in word) ≡ word) code
owns kind [] small good = tt
owns kind (word ∷ rest) small good = (own_word kind word small.0 (good 0 (omega arith)), owns kind rest small.1 λ i l. good (suc i) (omega arith))

printed_is_read : (code kinds slice : List ℕ) → All (λ word. word < 2 ^ 32) code → length code ≤ 768 → length kinds ≡ 64 → AllGoodWords (kind_in kinds) code → length code ≤ length slice
    → read_code (code_lines 0 code) kinds slice ≡ read_leaves (Done (length code)) (code ++ drop (length code) slice)
unfolding read_code first bad_line
printed_is_read code kinds slice small few long good room =
    let back = reads_back 0 code (omega arith) (owns (kind_in kinds) code small good) in
    rw (
      back.no_bad,
      back.lines,
      le-leb (length code) 768 few,
      eq-eqb (length kinds) 64 long,
      back.words,
      (no_bad_word_iff (kind_in kinds) code).1 good,
      le-leb (length code) (length slice) room,
    )

-- ---- what is read prints the same

printed_from : (place : ℕ) (lines : List (List ℕ)) → place + length lines < 10 ^ 20 → lowest_from place bad lines ≡ None → code_lines place (line_words place lines) ≡ joined lines
unfolding code_lines line_words lowest_from
printed_from place [] below e = refl
printed_from place (bytes ∷ rest) below e = go (line_word place bytes) refl e (λ f. printed_from (suc place) rest (omega arith) f)
  where
    go : (word : Option ℕ) → line_word place bytes ≡ word → ◌≡◌ {A = Option ℕ} (elim (no_word word) [ true ↦ Some place | false ↦ lowest_from (suc place) bad rest ]) None
        → (lowest_from (suc place) bad rest ≡ None → code_lines (suc place) (line_words (suc place) rest) ≡ joined rest)
        → code_lines place (add_word word (line_words (suc place) rest)) ≡ bytes ++ joined rest
    go None is e more = let clash : ◌≡◌ {A = ℕ} 0 1 = cc in absurd (omega arith)
    go (Some word) is e more =
        let told = line_says place bytes (omega arith) is in
        let fields : take 4 (split word_widths word) ≡ told.fields.operation ∷ told.fields.a ∷ told.fields.b ∷ told.fields.n ∷ [] =
        ap (λ (word : ℕ). take 4 (split word_widths word)) told.spells ∙ fields_split told.fields in
        let same : line (place ∷ take 4 (split word_widths word)) ≡ bytes = ap (λ (fields : List ℕ). line (place ∷ fields)) fields ∙ sym told.printed in
        ap (λ (first : List ℕ). first ++ code_lines (suc place) (line_words (suc place) rest)) same ∙ ap (λ (others : List ℕ). bytes ++ others) (more e)

read_is_printed : (text kinds slice : List ℕ) → LentText text → read_back_number (read_code text kinds slice).answer ≡ 0
    → code_lines 0 (take (read_back_place (read_code text kinds slice).answer) (read_code text kinds slice).code) ≡ text
unfolding bad_line
read_is_printed text kinds slice lent zero =
    let said = (comes_iff text kinds slice 0 (read_back_place (read_code text kinds slice).answer) refl refl).0 (zero, refl) in
    let front : take (read_back_place (read_code text kinds slice).answer) (read_code text kinds slice).code ≡ read_words text =
    rw (read_words_lem text kinds slice zero) (take_at (read_words text) (drop (length (read_words text)) slice) (read_back_place (read_code text kinds slice).answer) (sym said.1)) in
    rw front (printed_from 0 (text_lines text) (omega (arith, lines_few text)) said.0.0 ∙ lines_joined text)

pub round_trips : RoundTrips
round_trips = record { printed_is_read = printed_is_read; read_is_printed = read_is_printed }
