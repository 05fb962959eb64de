-- The word of a code line, and what is read was printed.
use Prim.Native.Nat.{ℕ, ◌/◌, ◌%◌, ◌^◌, ◌<◌, ◌≤◌}
use mathlib.Core.Path.{◌≡◌, refl, ◌∙◌}
use mathlib.Core.Bool.{Bool, true, false}
use Rattle.std.specs.Prelude.{Option, None, Some}
use mathlib.Core.List.{List, [], ◌∷◌, ◌++◌, append-nil}
use native.Mathlib.Omega.{arith}
use borrow.Author.Tests.{eq-eqb, eqb-true}
use lib.ListN.{length, length-append}
use lib.Dec.{eqb, ltb}
use Rattle.word.specs.Fields.{join}
use Rattle.answers.specs.First.{when}
use Rattle.text.specs.Lines.{digit, digits, decimal, spaced, line}
use Rattle.text.specs.Readers.{TextFront, front, read_line}
use Rattle.text.proofs.ReadLineLaws.{Within, Short, line_printed, line_read}
use Rattle.code.specs.Instruction.{word_widths}
use Rattle.code_reading.specs.Reading.{line_limits, numbered_word, word_by, read_word, alone, line_word}
use Rattle.code_reading.specs.GoodLines.{CodeFields, fields_line, fields_word}

short : (place : ℕ) → place < 10 ^ 20 → Short (line_limits place)
short place below = (below, (omega arith, (omega arith, (omega arith, (omega arith, tt)))))

-- what is printed is read
pub word_printed : (place : ℕ) (f : CodeFields) (rest : List ℕ) → place < 10 ^ 20 → read_word place (fields_line place f ++ rest) ≡ Some (front (fields_word f) rest)
unfolding read_word
word_printed place f rest below =
    rw (
      line_printed place place (31 ∷ 255 ∷ 255 ∷ 7 ∷ []) (f.operation ∷ f.a ∷ f.b ∷ f.n ∷ []) rest (short place below)
          (omega arith, (f.operation_fits, (f.a_fits, (f.b_fits, (f.n_fits, tt))))),
      eq-eqb place place refl,
    )

-- what is read was printed
pub record Parsed (place : ℕ) (text : List ℕ) (read : TextFront ℕ) : Type 0 where
  pub fields : CodeFields
  pub bytes : text ≡ fields_line place fields ++ read.rest
  pub word : read.value ≡ fields_word fields

module _ (place : ℕ) (text : List ℕ) {read : TextFront ℕ} where
  five : (numbers rest : List ℕ) → text ≡ line numbers ++ rest → Within numbers (line_limits place) → numbered_word place numbers rest ≡ Some read → Parsed place text read
  five [] rest bytes within e = absurd within
  five (x ∷ []) rest bytes within e = absurd within.1
  five (x ∷ operation ∷ []) rest bytes within e = absurd within.1.1
  five (x ∷ operation ∷ a ∷ []) rest bytes within e = absurd within.1.1.1
  five (x ∷ operation ∷ a ∷ b ∷ []) rest bytes within e = absurd within.1.1.1.1
  five (x ∷ operation ∷ a ∷ b ∷ n ∷ m ∷ more) rest bytes within e = absurd within.1.1.1.1.1
  five (x ∷ operation ∷ a ∷ b ∷ n ∷ []) rest bytes within e = go (eqb x place) refl e
    where
      go : (same : Bool) → eqb x place ≡ same
          → when same (front (join word_widths (operation ∷ a ∷ b ∷ n ∷ 0 ∷ [])) rest) ≡ Some read
          → Parsed place text read
      go true same e =
          let is : front (join word_widths (operation ∷ a ∷ b ∷ n ∷ 0 ∷ [])) rest ≡ read = cc in
          let own : x ≡ place = eqb-true x place same in
          rw (← is)
          (record {
            fields = record {
              operation = operation;
              a = a;
              b = b;
              n = n;
              operation_fits = within.1.0;
              a_fits = within.1.1.0;
              b_fits = within.1.1.1.0;
              n_fits = within.1.1.1.1.0;
            };
            bytes = rw own at bytes;
            word = refl;
          })
      go false same e = let clash : ◌≡◌ {A = ℕ} 0 1 = cc in absurd (omega arith)

  pub word_read : place < 10 ^ 20 → read_word place text ≡ Some read → Parsed place text read
  unfolding read_word
  word_read below e = go (read_line (line_limits place) text) refl e
    where
      go : (line : Option (TextFront (List ℕ))) → read_line (line_limits place) text ≡ line → word_by place line ≡ Some read → Parsed place text read
      go None is e = let clash : ◌≡◌ {A = ℕ} 0 1 = cc in absurd (omega arith)
      go (Some line) is e = let told = line_read (line_limits place) text (short place below) is in five line.value line.rest told.bytes told.within e

-- of a whole line
pub fields_word_lem : (place : ℕ) (f : CodeFields) → place < 10 ^ 20 → line_word place (fields_line place f) ≡ Some (fields_word f)
unfolding line_word
fields_word_lem place f below = let e : read_word place (fields_line place f) ≡ Some (front (fields_word f) []) = rw append-nil at (word_printed place f [] below) in rw e

read_alone : (read : Option (TextFront ℕ)) {word : ℕ} → alone read ≡ Some word → read ≡ Some (front word [])
read_alone None e = let clash : ◌≡◌ {A = ℕ} 0 1 = cc in absurd (omega arith)
read_alone (Some read) {word} e = go read.rest refl e
  where
    go : (rest : List ℕ) → read.rest ≡ rest → elim rest as (λ _. Option ℕ) [ [] ↦ Some read.value | byte ∷ rest ↦ None ] ≡ Some word → Some read ≡ Some (front word [])
    go [] is e = let same : read.value ≡ word = cc in rw (← same, ← is)
    go (byte ∷ rest) is e = let clash : ◌≡◌ {A = ℕ} 0 1 = cc in absurd (omega arith)

-- the word of a good line, and of no other
pub record Says (place : ℕ) (bytes : List ℕ) (word : ℕ) : Type 0 where
  pub fields : CodeFields
  pub printed : bytes ≡ fields_line place fields
  pub spells : word ≡ fields_word fields

pub line_says : (place : ℕ) (bytes : List ℕ) {word : ℕ} → place < 10 ^ 20 → line_word place bytes ≡ Some word → Says place bytes word
unfolding line_word
line_says place bytes below e =
    let told = word_read place bytes below (read_alone (read_word place bytes) e) in
    record { fields = told.fields; printed = told.bytes ∙ append-nil (fields_line place told.fields); spells = told.word }

-- a line is at least ten bytes
some_digits : (n : ℕ) → 0 < length (decimal n)
unfolding decimal digits
some_digits n = go (ltb n 10)
  where
    go : (small : Bool) → 0 < length {A = ℕ} (elim small as (λ _. List ℕ) [ true ↦ digit n ∷ [] | false ↦ digits 19 (n / 10) ++ (digit (n % 10) ∷ []) ])
    go true = omega arith
    go false = rw length-append (omega arith)

pub ten_bytes : (place : ℕ) (f : CodeFields) → 10 ≤ length (fields_line place f)
unfolding line spaced
ten_bytes place f =
    simp length-append (omega (arith, some_digits place, some_digits f.operation, some_digits f.a, some_digits f.b, some_digits f.n))
