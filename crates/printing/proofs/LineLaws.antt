-- The line of a code word and that of a cell, and how long all of them are.
use Prim.Native.Nat.{ℕ, suc, ◌+◌, ◌*◌, ◌/◌, ◌%◌, ◌<◌, ◌≤◌}
use mathlib.Core.Path.{◌≡◌, refl}
use mathlib.Core.Bool.{Bool, true, false}
use mathlib.Core.List.{List, [], ◌∷◌, ◌++◌, append-nil}
use native.Mathlib.Omega.{arith}
use borrow.Author.Tests.{eq-eqb, ne_eqb}
use lib.ListN.{length, take}
use Rattle.word.specs.Fields.{split}
use Rattle.word.proofs.FieldLaws.{split_fits}
use Rattle.text.specs.Lines.{line, word_line}
use Rattle.text.specs.Written.{Wrote}
use Rattle.text.proofs.WrittenLaws.{wrote_nothing}
use Rattle.text.proofs.LineLaws.{line_below, word_line_most}
use Rattle.code.specs.Instruction.{word_widths}
use Rattle.stores.specs.Cells.{unset, is_set}
use Rattle.printing.specs.Listing.{code_lines, cell_lines}
use Rattle.printing.proofs.NumberedLaws.{Numbered, lines_length}

pub code_numbered : Numbered code_lines
unfolding code_lines
code_numbered = record { none = λ place. refl; more = λ place word rest. rw append-nil }

pub cells_numbered : (word : List ℕ) → Numbered (cell_lines word)
unfolding cell_lines
cells_numbered word = record { none = λ n. refl; more = λ n cell rest. go n cell rest (is_set cell) }
  where
    go : (n cell : ℕ) (rest : List ℕ) (set : Bool)
        → elim set as (λ _. List ℕ) [ true ↦ word_line word (n ∷ cell ∷ []) ++ cell_lines word (suc n) rest | false ↦ cell_lines word (suc n) rest ]
        ≡ elim set as (λ _. List ℕ) [ true ↦ word_line word (n ∷ cell ∷ []) ++ cell_lines word (suc n) [] | false ↦ cell_lines word (suc n) [] ] ++ cell_lines word (suc n) rest
    go n cell rest true = rw append-nil
    go n cell rest false = refl

pub code_line : (place word : ℕ) {before after : List ℕ} {at next : ℕ} → word < 4294967296
    → Wrote (line (place ∷ word / 134217728 ∷ word / 524288 % 256 ∷ word / 2048 % 256 ∷ word / 256 % 8 ∷ [])) before at after next
    → Wrote (code_lines place (word ∷ [])) before at after next
unfolding code_lines
code_line place word fits wrote = let top : word / 134217728 % 32 ≡ word / 134217728 = omega arith in rw (append-nil, top) wrote

module _ (word : List ℕ) (n cell : ℕ) {before : List ℕ} {at : ℕ} where
  pub no_cell : cell ≡ unset → Wrote (cell_lines word n (cell ∷ [])) before at before at
  unfolding cell_lines
  no_cell e = rw (eq-eqb cell unset e, cell_lines) (wrote_nothing before at)

  pub cell_line : {after : List ℕ} {next : ℕ} → (cell ≡ unset → ⊥) → Wrote (word_line word (n ∷ cell ∷ [])) before at after next
      → Wrote (cell_lines word n (cell ∷ [])) before at after next
  unfolding cell_lines
  cell_line set wrote = rw (ne_eqb cell unset set, cell_lines, append-nil) wrote

pub ruleset ways = (code_line, no_cell, cell_line, arith)

-- how long they are
one_code_line : (place word : ℕ) → place < 1000 → length (code_lines place (word ∷ [])) ≤ 21
unfolding code_lines
one_code_line place word below =
    let fields = split_fits word_widths word in
    rw append-nil (line_below 2 (place ∷ take 4 (split word_widths word)) (below, (omega arith, (omega arith, (omega arith, (omega arith, tt))))))

module _ (word : List ℕ) (letter : length word ≤ 1) where
  one_cell_line : (n cell : ℕ) → length (cell_lines word n (cell ∷ [])) ≤ 45
  unfolding cell_lines
  one_cell_line n cell = go (is_set cell)
    where
      go : (set : Bool)
          → length {A = ℕ} (elim set as (λ _. List ℕ) [ true ↦ word_line word (n ∷ cell ∷ []) ++ cell_lines word (suc n) [] | false ↦ cell_lines word (suc n) [] ]) ≤ 45
      go true = rw append-nil (omega (arith, word_line_most word (n ∷ cell ∷ [])))
      go false = omega arith

  pub cells_length : (cells : List ℕ) → length (cell_lines word 0 cells) ≤ 45 * length cells
  cells_length cells =
      lines_length (cells_numbered word) 45 (length cells) (λ n cell _. one_cell_line n cell) 0 cells (omega arith)

pub code_length : (code : List ℕ) → length code ≤ 1000 → length (code_lines 0 code) ≤ 21 * length code
code_length code few = lines_length code_numbered 21 1000 one_code_line 0 code (omega arith)

-- where they end
module _ {before after : List ℕ} {at next : ℕ} where
  pub code_end : (code : List ℕ) → Wrote (code_lines 0 code) before at after next → length code ≤ 1000 → next ≤ at + 21 * length code
  code_end code wrote few = omega (arith, wrote.place, code_length code few)

  pub cells_end : (word cells : List ℕ) → Wrote (cell_lines word 0 cells) before at after next → length word ≤ 1 → next ≤ at + 45 * length cells
  cells_end word cells wrote letter = omega (arith, wrote.place, cells_length word letter cells)

  pub word_line_end : (word numbers : List ℕ) → Wrote (word_line word numbers) before at after next → next ≤ at + length word + 21 * length numbers + 2
  word_line_end word numbers wrote = omega (arith, wrote.place, word_line_most word numbers)
