-- Lines that are printed are read back, lines that are read were printed, and where the lines of a text are.
use Prim.Native.Nat.{ℕ, zero, suc, ◌/◌, ◌%◌, ◌^◌, ◌<◌, ◌≤◌}
use mathlib.Core.Path.{◌≡◌, refl, sym, ◌∙◌, ap}
use mathlib.Core.Bool.{Bool, true, false}
use Rattle.std.specs.Prelude.{Option, None, Some}
use Rattle.std.specs.Option.{option_map}
use mathlib.Core.List.{List, [], ◌∷◌, ◌++◌, append_assoc}
use native.Mathlib.Omega.{arith}
use borrow.Author.Tests.{ne_eqb}
use lib.Dec.{eqb, ltb}
use Rattle.word.proofs.All.{All, all_append}
use Rattle.text.specs.Lines.{space, line_feed, digit, digits, decimal, spaced, line}
use Rattle.text.specs.Readers.{TextFront, front, read_number, number_then, read_line, in_front, text_lines}
use Rattle.text.proofs.ReadLaws.{number_printed, number_read, Spelled}

-- numbers that are at most their limits, as many as there are; and limits of few enough digits
abbrev pub Within : List ℕ → List ℕ → Type 0
Within [] [] = Unit {0}
Within [] (most ∷ more) = ⊥
Within (n ∷ numbers) [] = ⊥
Within (n ∷ numbers) (most ∷ more) = (n ≤ most) × Within numbers more

abbrev pub Short : List ℕ → Type 0
Short limits = All (λ most. most < 10 ^ 20) limits

-- a line and what follows it, number by number
line_one : (n : ℕ) (rest : List ℕ) → line (n ∷ []) ++ rest ≡ decimal n ++ (line_feed ∷ rest)
unfolding line spaced
line_one n rest = append_assoc (decimal n) (line_feed ∷ []) rest

line_more : (n m : ℕ) (numbers rest : List ℕ) → line (n ∷ m ∷ numbers) ++ rest ≡ decimal n ++ (space ∷ (line (m ∷ numbers) ++ rest))
unfolding line spaced
line_more n m numbers rest = simp append_assoc

-- what is printed is read
pub line_printed : (most n : ℕ) (more numbers rest : List ℕ) → Short (most ∷ more) → Within (n ∷ numbers) (most ∷ more)
    → read_line (most ∷ more) (line (n ∷ numbers) ++ rest) ≡ Some (front (n ∷ numbers) rest)
unfolding read_line
line_printed most n [] [] rest short within =
    rw (line_one n rest, number_printed most line_feed refl n rest within.0 (omega (arith, short.0, within.0)))
line_printed most n [] (m ∷ numbers) rest short within = absurd within.1
line_printed most n (next ∷ more) [] rest short within = absurd within.1
line_printed most n (next ∷ more) (m ∷ numbers) rest short within =
    rw (
      line_more n m numbers rest,
      number_printed most space refl n (line (m ∷ numbers) ++ rest) within.0 (omega (arith, short.0, within.0)),
      line_printed next m more numbers rest short.1 within.1,
    )

-- what is read was printed
pub record Printed (limits text : List ℕ) (read : TextFront (List ℕ)) : Type 0 where
  pub bytes : text ≡ line read.value ++ read.rest
  pub within : Within read.value limits

then_read : (first : Option (TextFront ℕ)) (others : List ℕ → Option (TextFront (List ℕ))) {read : TextFront (List ℕ)} → number_then first others ≡ Some read
    → (number : TextFront ℕ) × (first ≡ Some number) × ((line : TextFront (List ℕ)) × (others number.rest ≡ Some line) × (read ≡ front (number.value ∷ line.value) line.rest))
then_read None others e = let clash : ◌≡◌ {A = ℕ} 0 1 = cc in absurd (omega arith)
then_read (Some number) others {read} e = go (others number.rest) refl e
  where
    go : (line : Option (TextFront (List ℕ))) → others number.rest ≡ line → option_map (λ line. front (number.value ∷ line.value) line.rest) line ≡ Some read
        → (first : TextFront ℕ) × (Some number ≡ Some first) × ((line : TextFront (List ℕ)) × (others first.rest ≡ Some line) × (read ≡ front (first.value ∷ line.value) line.rest))
    go None is e = let clash : ◌≡◌ {A = ℕ} 0 1 = cc in absurd (omega arith)
    go (Some line) is e = (number, refl, (line, is, cc))

pub line_read : (limits text : List ℕ) {read : TextFront (List ℕ)} → Short limits → read_line limits text ≡ Some read → Printed limits text read
unfolding read_line
line_read [] text short e = let clash : ◌≡◌ {A = ℕ} 0 1 = cc in absurd (omega arith)
line_read (most ∷ []) text {read} short e =
    let parts = then_read (read_number most line_feed text) (λ rest. Some (front [] rest)) e in
    let number = parts.0 in
    let told = number_read most line_feed short.0 text parts.1 in
    let end : front [] number.rest ≡ parts.2.0 = cc parts.2.1 in
    let whole : read ≡ front (number.value ∷ []) number.rest = rw (← end) at parts.2.2 in
    rw whole (record { bytes = told.bytes ∙ sym (line_one number.value number.rest); within = (told.fits, tt) })
line_read (most ∷ next ∷ more) text {read} short e =
    let parts = then_read (read_number most space text) (read_line (next ∷ more)) e in
    let told = number_read most space short.0 text parts.1 in
    let behind = line_read (next ∷ more) parts.0.rest short.1 parts.2.1 in
    rw parts.2.2 (go parts.0 parts.2.0.value parts.2.0.rest told behind.bytes behind.within)
  where
    go : (number : TextFront ℕ) (numbers rest : List ℕ) → Spelled most space 0 text number → number.rest ≡ line numbers ++ rest → Within numbers (next ∷ more)
        → Printed (most ∷ next ∷ more) text (front (number.value ∷ numbers) rest)
    go number [] rest told bytes within = absurd within
    go number (m ∷ numbers) rest told bytes within = record {
      bytes = told.bytes ∙ rw (bytes) (sym (line_more number.value m numbers rest));
      within = (told.fits, within);
    }

-- ---- the lines of a text

-- lines one after another
abbrev pub joined : List (List ℕ) → List ℕ
joined [] = []
joined (first ∷ others) = first ++ joined others

front_joined : (byte : ℕ) (lines : List (List ℕ)) → joined (in_front byte lines) ≡ byte ∷ joined lines
front_joined byte [] = refl
front_joined byte (first ∷ others) = refl

pub lines_joined : (text : List ℕ) → joined (text_lines text) ≡ text
unfolding text_lines
lines_joined [] = refl
lines_joined (byte ∷ rest) = go (eqb byte line_feed) (lines_joined rest)
  where
    go : (feed : Bool) → joined (text_lines rest) ≡ rest → joined (elim feed as (λ _. List (List ℕ)) [ true ↦ (byte ∷ []) ∷ text_lines rest | false ↦ in_front byte (text_lines rest) ]) ≡ byte ∷ rest
    go true more = ap (λ (bytes : List ℕ). byte ∷ bytes) more
    go false more = front_joined byte (text_lines rest) ∙ ap (λ (bytes : List ℕ). byte ∷ bytes) more

-- a byte that is no line feed
abbrev Inner : ℕ → Type 0
Inner byte = byte ≡ line_feed → ⊥

first_line : (body rest : List ℕ) → All Inner body → text_lines (body ++ (line_feed ∷ rest)) ≡ (body ++ (line_feed ∷ [])) ∷ text_lines rest
unfolding text_lines
first_line [] rest inner = refl
first_line (byte ∷ body) rest inner = rw (ne_eqb byte line_feed inner.0, first_line body rest inner.1, text_lines)

digits_inner : (most n : ℕ) → All Inner (digits most n)
unfolding digits
digits_inner zero n = tt
digits_inner (suc most) n = go (ltb n 10) refl (digits_inner most (n / 10))
  where
    go : (small : Bool) → ltb n 10 ≡ small → All Inner (digits most (n / 10))
        → All Inner (elim small as (λ _. List ℕ) [ true ↦ digit n ∷ [] | false ↦ digits most (n / 10) ++ (digit (n % 10) ∷ []) ])
    go true is high = (λ e. omega arith, tt)
    go false is high = all_append Inner (digits most (n / 10)) (digit (n % 10) ∷ []) high (λ e. omega arith, tt)

spaced_inner : (numbers : List ℕ) → All Inner (spaced numbers)
unfolding spaced decimal
spaced_inner [] = tt
spaced_inner (n ∷ []) = digits_inner 20 n
spaced_inner (n ∷ m ∷ rest) = all_append Inner (decimal n) (space ∷ spaced (m ∷ rest)) (digits_inner 20 n) (λ e. omega arith, spaced_inner (m ∷ rest))

-- a line of numbers in front of a text is its first line
pub line_first : (numbers rest : List ℕ) → text_lines (line numbers ++ rest) ≡ line numbers ∷ text_lines rest
unfolding line
line_first numbers rest = rw append_assoc (first_line (spaced numbers) rest (spaced_inner numbers))

pub no_lines : text_lines [] ≡ []
unfolding text_lines
no_lines = refl

-- a text has a first line
pub some_line : (byte : ℕ) (rest : List ℕ) → (first : List ℕ) × ((others : List (List ℕ)) × (text_lines (byte ∷ rest) ≡ first ∷ others))
unfolding text_lines
some_line byte rest = go (eqb byte line_feed) (text_lines rest)
  where
    go : (feed : Bool) (lines : List (List ℕ)) → (first : List ℕ) × ((others : List (List ℕ))
        × (elim feed as (λ _. List (List ℕ)) [ true ↦ (byte ∷ []) ∷ lines | false ↦ in_front byte lines ] ≡ first ∷ others))
    go true lines = (byte ∷ [], (lines, refl))
    go false [] = (byte ∷ [], ([], refl))
    go false (first ∷ others) = (byte ∷ first, (others, refl))
