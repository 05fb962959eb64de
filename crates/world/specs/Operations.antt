-- What the operations on terms answer, read as the answers of the world of rows.
use Rattle.std.specs.Prelude.{Option, Some, None, Result, Ok, Err}
use Rattle.std.specs.Prelude.{ℕ, ◌<◌, ◌≤◌, ◌≡◌, Bool, List, [], length, get_or}
use Rattle.answers.specs.declared.Reason.{Reason}
use Rattle.answers.specs.Numbers.{reason_number}
use Rattle.numbers.specs.Limits.{most_parts, most_term_rows}
use Rattle.numbers.specs.declared.TermRow.{TermRow}
use Rattle.terms.specs.Shape.{parts_of}
use Rattle.terms.specs.Row.{shape_of}
use Rattle.terms.specs.Finder.{locate}
use Rattle.theory.specs.Outcome.{Answer, got, not, full}
use Rattle.theory.specs.World.{Op, Test, create, key_of}
use Rattle.theory.specs.Model.{goes_with}
use Rattle.theory.specs.RowModel.{Table, with_counter, placed, row_model, row_world}

-- the term of a word is found in the table, or added to it
abbrev pub finding : Table → ℕ → Answer (ℕ × Table)
finding x word = placed x (locate x.rows x.used word)

-- an answer at a memory
abbrev pub as_made : Table → Result ℕ Reason → Answer (ℕ × Table)
as_made x (Ok word) = finding x word
as_made x (Err reason) = not (reason_number reason)

abbrev pub as_named : Table → Option (ℕ × ℕ) → Answer (ℕ × Table)
as_named x (Some (word, counter)) = finding (with_counter x counter) word
as_named x None = full

abbrev pub as_opened : Table → Result TermRow Reason → Answer (ℕ × Table)
as_opened x (Ok row) = got (row.0, x)
as_opened x (Err reason) = not (reason_number reason)

abbrev pub as_parted : ℕ → Result ℕ Reason → Answer (ℕ → ℕ)
as_parted row (Ok word) = got (λ i. get_or (parts_of (shape_of word)) i row)
as_parted row (Err reason) = not (reason_number reason)

abbrev pub as_tested : Result (Unit {0}) Reason → Answer (Unit {0})
as_tested (Ok _) = got tt
as_tested (Err reason) = not (reason_number reason)

-- a term is made in any memory, and a condition tested
pub record MakesWord (o : Op ℕ) (word : ℕ) : Type 0 where
  pub says : (x : Table) → row_world.apply o x ≡ finding x word

pub record Tests (t : Test ℕ) (answer : Result (Unit {0}) Reason) : Type 0 where
  pub says : (x : Table) → row_world.test t x ≡ as_tested answer

-- in a memory with these rows; a row that is opened has a row's number
module _ (rows : List ℕ) where
  pub record MakesOver (o : Op ℕ) (answer : Result ℕ Reason) : Type 0 where
    pub says : (x : Table) → x.rows ≡ rows → row_world.apply o x ≡ as_made x answer

  pub record OpensOver (o : Op ℕ) (answer : Result TermRow Reason) : Type 0 where
    pub says : (x : Table) → x.rows ≡ rows → row_world.apply o x ≡ as_opened x answer
    pub below : (row : TermRow) → answer ≡ Ok row → row.0 < most_term_rows

  pub record PartsOver (row n : ℕ) (answer : Result ℕ Reason) : Type 0 where
    pub says : (x : Table) → x.rows ≡ rows → row_world.parts row n x ≡ as_parted row answer
    pub exactly : (word : ℕ) → answer ≡ Ok word → length (parts_of (shape_of word)) ≡ n
    pub few : (word : ℕ) → answer ≡ Ok word → n ≤ most_parts

  pub record TestsOver (t : Test ℕ) (answer : Result (Unit {0}) Reason) : Type 0 where
    pub says : (x : Table) → x.rows ≡ rows → row_world.test t x ≡ as_tested answer

-- in a memory with this name counter
pub record NamesAt (kind counter : ℕ) (answer : Option (ℕ × ℕ)) : Type 0 where
  pub says : (x : Table) → x.counter ≡ counter → row_world.apply (create kind) x ≡ as_named x answer

-- in a memory with these certificates
pub record CertifiedBy (certificates : List ℕ) (agent : ℕ) (answer : Result TermRow Reason) : Type 0 where
  pub says : (x : Table) → x.certificates ≡ certificates → row_world.apply (key_of agent) x ≡ as_opened x answer
  pub below : (row : TermRow) → answer ≡ Ok row → row.0 < most_term_rows

-- a key goes with another: `goes_with`, which looks at their two rows alone
unfoldable pub keys_pair : List ℕ → ℕ → ℕ → Bool
keys_pair rows key other = goes_with row_model key other (record { rows = rows; used = 0; counter = 0; certificates = [] })
