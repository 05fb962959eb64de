-- Each number exactly where its condition holds, and what is left of the code slice.
use Prim.Native.Nat.{ℕ, suc, ◌^◌, ◌<◌, ◌≤◌}
use mathlib.Core.Path.{◌≡◌, refl, ◌∙◌, ap}
use mathlib.Core.Logic.{◌↔◌, ◌≢◌}
use mathlib.Core.Bool.{Bool, true, false, cond, not, ◌&&◌}
use Rattle.std.specs.Prelude.{Option, None, Some}
use Rattle.std.specs.Option.{option_map}
use mathlib.Core.List.{List, [], ◌∷◌, ◌++◌}
use native.Mathlib.Omega.{arith}
use borrow.Author.Tests.{le-leb, lt-leb, leb-true, leb-false}
use lib.Dec.{T, eqb, leb}
use lib.ListN.{length, get_or, drop}
use Rattle.word.proofs.TestLaws.{both, equals, at_most, is_true, is_false}
use Rattle.word.proofs.LowestLaws.{none_bad, lowest_bad}
use Rattle.numbers.specs.Kinds.{kind_in}
use Rattle.answers.specs.First.{when, first}
use Rattle.code.specs.Words.{bad_word}
use Rattle.text.specs.Readers.{in_front, text_lines}
use Rattle.text.specs.Lines.{line_feed}
use Rattle.code_reading.specs.ReadBackNumbers.{read_back_number, read_back_place}
use Rattle.code_reading.specs.Reading.{line_word, no_word, bad_line, read_words, ReadOutcome, read_leaves, comes_to, read_code}
use Rattle.code_reading.specs.GoodLines.{GoodLine, LowestBadLine, AllGoodLines}
use Rattle.code_reading.specs.declared.answer.ReadBack.{ReadBack}
use Rattle.code_reading.specs.declared.answer.ReadBack.TheVariants.{Done, BadLine, Limit, BadWord, CodeTooShort}
use Rattle.code_reading.proofs.GoodLineLaws.{fields_word_lem, line_says}

-- ---- good lines

-- a text has no more lines than bytes
pub lines_few : (text : List ℕ) → length (text_lines text) ≤ length text
unfolding text_lines
lines_few [] = omega arith
lines_few (byte ∷ rest) = go (eqb byte line_feed) (text_lines rest) (lines_few rest)
  where
    go : (feed : Bool) (lines : List (List ℕ)) → length lines ≤ length rest
        → length {A = List ℕ} (elim feed as (λ _. List (List ℕ)) [ true ↦ (byte ∷ []) ∷ lines | false ↦ in_front byte lines ]) ≤ suc (length rest)
    go true lines few = omega arith
    go false [] few = omega arith
    go false (first ∷ others) few = omega arith

pub good_line : (place : ℕ) (bytes : List ℕ) → place < 10 ^ 20 → T (not (no_word (line_word place bytes))) ↔ GoodLine place bytes
good_line place bytes below = (λ t. says (line_word place bytes) refl t, λ good. rw (good.printed, fields_word_lem place good.fields below) tt)
  where
    says : (word : Option ℕ) → line_word place bytes ≡ word → T (not (no_word word)) → GoodLine place bytes
    says None e t = absurd t
    says (Some word) e t = let told = line_says place bytes below e in record { fields = told.fields; printed = told.printed }

module _ (text : List ℕ) (slice : length text < 2 ^ 63) where
  good_at : (i : ℕ) → i < length (text_lines text) → T (not (no_word (line_word i (get_or (text_lines text) i [])))) ↔ GoodLine i (get_or (text_lines text) i [])
  good_at i inside = good_line i (get_or (text_lines text) i []) (omega (arith, lines_few text))

  pub bad_line_iff : (line : ℕ) → (bad_line text ≡ Some line) ↔ LowestBadLine text line
  unfolding bad_line
  bad_line_iff = lowest_bad _ _ (text_lines text) [] good_at

  pub good_lines_iff : (bad_line text ≡ None) ↔ AllGoodLines text
  unfolding bad_line
  good_lines_iff = none_bad _ _ (text_lines text) [] good_at

-- ---- what is answered

-- the answer of a number and a place
abbrev read_back_of : ℕ → ℕ → ReadBack
read_back_of number place =
    get_or
    (Done place ∷ Limit ∷ Limit ∷ Limit ∷ Limit ∷ Limit ∷ Limit ∷ Limit ∷ CodeTooShort place ∷ BadWord place ∷ Limit ∷ Limit ∷ Limit ∷ Limit ∷ Limit ∷ BadLine place ∷ [])
    number Limit

known : (answer : ReadBack) → answer ≡ read_back_of (read_back_number answer) (read_back_place answer)
known (Done words) = refl
known (BadLine line) = refl
known Limit = refl
known (BadWord word) = refl
known (CodeTooShort words) = refl

module _ (text kinds code : List ℕ) where
  abbrev words : List ℕ
  words = read_words text

  abbrev fits : Bool
  fits = leb (length (text_lines text)) 768 && eqb (length kinds) 64

  -- neither 15, 1 nor 9
  abbrev pub Passed : Type 0
  Passed = (bad_line text ≡ None) × T fits × (bad_word (kind_in kinds) words ≡ None)

  -- what each answer says
  abbrev pub Gives : ReadBack → Type 0
  Gives (BadLine line) = bad_line text ≡ Some line
  Gives Limit = (bad_line text ≡ None) × (T fits → ⊥)
  Gives (BadWord word) = (bad_line text ≡ None) × T fits × (bad_word (kind_in kinds) words ≡ Some word)
  Gives (CodeTooShort count) = Passed × (count ≡ length words) × (length code < length words)
  Gives (Done count) = Passed × (count ≡ length words) × (length words ≤ length code)

  -- and what it leaves
  abbrev Leaves : ReadOutcome → Type 0
  Leaves o =
      Gives o.answer × (read_back_number o.answer ≢ 0 → o.code ≡ code)
      × (read_back_number o.answer ≡ 0 → o.code ≡ words ++ drop (length words) code)

  refused : (answer : ReadBack) → read_back_number answer ≢ 0 → Gives answer → Leaves (read_leaves answer code)
  refused answer nonzero gives = (gives, λ _. refl, λ e. absurd (nonzero e))

  by_room : Passed → (room : Bool) → leb (length words) (length code) ≡ room
      → Leaves (cond room (read_leaves (Done (length words)) (words ++ drop (length words) code)) (read_leaves (CodeTooShort (length words)) code))
  by_room passed true e = ((passed, refl, leb-true (length words) (length code) e), λ n. absurd (n refl), λ _. refl)
  by_room passed false e = refused (CodeTooShort (length words)) (λ z. omega arith) (passed, refl, leb-false (length words) (length code) e)

  -- one look after another
  by_looks : (found : Option ℕ) (fit : Bool) (word : Option ℕ) → bad_line text ≡ found → fits ≡ fit → bad_word (kind_in kinds) words ≡ word
      → Leaves (comes_to (first (option_map BadLine found ∷ when (not fit) Limit ∷ option_map BadWord word ∷ [])) words code)
  unfolding first
  by_looks (Some line) fit word p q r = refused (BadLine line) (λ z. omega arith) p
  by_looks None false word p q r = refused Limit (λ z. omega arith) (p, rw q λ n. n)
  by_looks None true (Some word) p q r = refused (BadWord word) (λ z. omega arith) (p, rw q tt, r)
  by_looks None true None p q r = by_room (p, rw q tt, r) (leb (length words) (length code)) refl

  read_leaves_lem : Leaves (read_code text kinds code)
  unfolding read_code
  read_leaves_lem = by_looks (bad_line text) fits (bad_word (kind_in kinds) words) refl refl refl

  pub read_kept : read_back_number (read_code text kinds code).answer ≢ 0 → (read_code text kinds code).code ≡ code
  read_kept = read_leaves_lem.1

  pub read_words_lem : read_back_number (read_code text kinds code).answer ≡ 0 → (read_code text kinds code).code ≡ words ++ drop (length words) code
  read_words_lem = read_leaves_lem.2

  -- and the other way: what holds gives the answer
  comes : (answer : ReadBack) → Gives answer → (read_code text kinds code).answer ≡ answer
  unfolding read_code first
  comes (BadLine line) e = rw e
  comes Limit e = rw (e.0, is_false fits e.1)
  comes (BadWord word) e = rw (e.0, is_true fits e.1, e.2)
  comes (CodeTooShort count) e = rw (e.0.0, is_true fits e.0.1, e.0.2, lt-leb (length words) (length code) e.2, e.1)
  comes (Done count) e = rw (e.0.0, is_true fits e.0.1, e.0.2, le-leb (length words) (length code) e.2, e.1)

  abbrev pub Comes : ℕ → ℕ → Type 0
  Comes number place = (read_back_number (read_code text kinds code).answer ≡ number) × (read_back_place (read_code text kinds code).answer ≡ place)

  told : (number place : ℕ) → Comes number place → Gives (read_back_of number place)
  told number place h = rw (known (read_code text kinds code).answer, h.0, h.1) at read_leaves_lem.0

  -- a number and a place, and what its answer says
  pub comes_iff : (number place : ℕ) → read_back_number (read_back_of number place) ≡ number → read_back_place (read_back_of number place) ≡ place → Comes number place ↔ Gives (read_back_of number place)
  comes_iff number place n p = (told number place, λ gives. let is = comes (read_back_of number place) gives in (ap read_back_number is ∙ n, ap read_back_place is ∙ p))

  pub fits_iff : T fits ↔ ((length (text_lines text) ≤ 768) × (length kinds ≡ 64))
  fits_iff =
      let lines = at_most (length (text_lines text)) 768 in
      let kinds-fit = equals (length kinds) 64 in
      let two = both (leb (length (text_lines text)) 768) (eqb (length kinds) 64) in
      (λ t. (lines.0 (two.0 t).0, kinds-fit.0 (two.0 t).1), λ h. two.1 (lines.1 h.0, kinds-fit.1 h.1))
