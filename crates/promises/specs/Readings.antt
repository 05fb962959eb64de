-- Reading code lines back: document 02's numbers, exactly, in the order 15, 1, 9, 8; nothing is written with any answer but 0; what is printed is read, and what is read prints the same.
use Rattle.std.specs.Prelude.{ℕ, ◌^◌, ◌<◌, ◌≤◌, ◌≡◌, ◌↔◌, ◌≢◌, List, [], ◌++◌, length, get_or, take, drop}
use Rattle.word.specs.All.{All}
use Rattle.numbers.specs.Kinds.{kind_in}
use Rattle.numbers.specs.Limits.{variables, most_code_words}
use Rattle.code.specs.GoodWords.{LowestBadWord, AllGoodWords}
use Rattle.text.specs.Readers.{text_lines}
use Rattle.printing.specs.Listing.{code_lines}
use Rattle.code_reading.specs.ReadBackNumbers.{read_back_number, read_back_place}
use Rattle.code_reading.specs.Reading.{read_words, ReadOutcome, read_leaves, read_code}
use Rattle.code_reading.specs.GoodLines.{fields_word, GoodLine, LowestBadLine, AllGoodLines}
use Rattle.code_reading.specs.declared.answer.ReadBack.TheVariants.{Done}

-- a text is lent: it has fewer bytes than half of an address's values
abbrev pub LentText : List ℕ → Type 0
LentText text = length text < 2 ^ 63

abbrev pub ReadsAs : ReadOutcome → ℕ → ℕ → Type 0
ReadsAs o number place = (read_back_number o.answer ≡ number) × (read_back_place o.answer ≡ place)

-- not 1: at most 768 lines, and 64 kinds
pub record LinesWithin (text kinds : List ℕ) : Type 0 where
  pub few_lines : length (text_lines text) ≤ most_code_words
  pub all_kinds : length kinds ≡ variables

-- neither 15 nor 1
pub record Readable (text kinds : List ℕ) : Type 0 where
  pub lines : AllGoodLines text
  pub within : LinesWithin text kinds

module _ (text kinds code : List ℕ) where
  pub record ReadingTable : Type 0 where
    pub bad_line_lem : (line : ℕ) → ReadsAs (read_code text kinds code) 15 line ↔ LowestBadLine text line
    pub limit : ReadsAs (read_code text kinds code) 1 0 ↔ (AllGoodLines text × (LinesWithin text kinds → ⊥))
    pub bad_word : (word : ℕ) → ReadsAs (read_code text kinds code) 9 word ↔ (Readable text kinds × LowestBadWord (kind_in kinds) (read_words text) word)
    pub too_short : (words : ℕ) → ReadsAs (read_code text kinds code) 8 words
        ↔ (Readable text kinds × AllGoodWords (kind_in kinds) (read_words text) × (words ≡ length (text_lines text)) × (length code < words))
    pub done : (words : ℕ) → ReadsAs (read_code text kinds code) 0 words
        ↔ (Readable text kinds × AllGoodWords (kind_in kinds) (read_words text) × (words ≡ length (text_lines text)) × (words ≤ length code))
    -- a word a line, of the line's own fields
    pub word_a_line : AllGoodLines text → length (read_words text) ≡ length (text_lines text)
    pub spells : (i : ℕ) → AllGoodLines text → i < length (text_lines text) → (line : GoodLine i (get_or (text_lines text) i []))
        → get_or (read_words text) i 0 ≡ fields_word line.fields
    -- what is left
    pub read : read_back_number (read_code text kinds code).answer ≡ 0 → (read_code text kinds code).code ≡ read_words text ++ drop (length (read_words text)) code
    pub left : read_back_number (read_code text kinds code).answer ≢ 0 → (read_code text kinds code).code ≡ code

pub record RoundTrips : Type 0 where
  -- what the listing prints of code that run accepts is read back to the same words
  pub printed_is_read : (code kinds slice : List ℕ) → All (λ word. word < 2 ^ 32) code → length code ≤ most_code_words → length kinds ≡ variables
      → AllGoodWords (kind_in kinds) code → length code ≤ length slice
      → read_code (code_lines 0 code) kinds slice ≡ read_leaves (Done (length code)) (code ++ drop (length code) slice)
  -- what is read without a refusal prints as the same bytes
  pub read_is_printed : (text kinds slice : List ℕ) → LentText text → read_back_number (read_code text kinds slice).answer ≡ 0
      → code_lines 0 (take (read_back_place (read_code text kinds slice).answer) (read_code text kinds slice).code) ≡ text
