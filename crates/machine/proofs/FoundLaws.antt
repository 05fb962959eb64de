-- The finder's answer for a term, and the rows after it.
use mathlib.Core.Path.{ap}
use Rattle.std.proofs.lemmas.Option.{some_pair_parts}
use Rattle.std.specs.Prelude.{Some, None}
use Prim.Native.Nat.{ℕ, ◌<◌, ◌≤◌}
use mathlib.Core.Path.{◌≡◌, refl, sym}
use mathlib.Core.List.{List}
use native.Mathlib.Omega.{arith}
use lib.ListN.{length, length-set}
use Rattle.numbers.specs.declared.TermRow.{TermRow}
use Rattle.terms.specs.Finder.{Located, located, locate}
use Rattle.terms.specs.Finder.{Found}
use Rattle.terms.proofs.FinderLaws.{located_as}
use Rattle.stores.specs.Cells.{unset}
use Rattle.machine.specs.Machine.{Within}

pub record Finds (rows : List ℕ) (used term : ℕ) (found : Found) (rows' : List ℕ) : Type 0 where
  pub within : Within rows used
  pub says : located found rows' ≡ locate rows used term

pub finds : {rows rows' : List ℕ} {used word : ℕ} {found : Found} → Within rows used → located found rows' ≡ locate rows used word → Finds rows used word found rows'
finds within says = record { within = within; says = says }

-- the length is kept, the row is no cell's unset, and without room nothing is written
record Says (rows : List ℕ) (l : Located) : Type 0 where
  long : length l.rows ≡ length rows
  below : (row : TermRow) (used : ℕ) → l.found ≡ Some (row, used) → row.0 < length rows
  full : l.found ≡ None → l.rows ≡ rows

module _ (rows : List ℕ) where
  at_row : {row row' : TermRow} {used used' : ℕ} → row.0 < length rows → ◌≡◌ {A = Found} (Some (row, used)) (Some (row', used')) → row'.0 < length rows
  at_row {row} {row'} {used} {used'} l e = let same : row.0 ≡ row'.0 = ap (λ (r : TermRow). r.0) (some_pair_parts row row' used used' e).0 in omega arith

  clash : {A : Type 0} {row : TermRow} {used : ℕ} → ◌≡◌ {A = Found} (Some (row, used)) None → A
  clash e = let z : ◌≡◌ {A = ℕ} 0 1 = cc in absurd (omega arith)

  answers : (used word : ℕ) → used ≤ length rows → Says rows (locate rows used word)
  answers used word fits =
      located_as rows used word fits (Says rows)
      (λ row l e. record { long = refl; below = λ row' used' q. at_row (omega arith) q; full = λ q. clash q })
      (λ absent l. record { long = length-set rows used word; below = λ row' used' q. at_row l q; full = λ q. clash q })
      (λ absent l. record { long = refl; below = λ row used' q. clash (sym q); full = λ q. refl })

module _ {rows rows' : List ℕ} {used term : ℕ} {found : Found} (answer : Finds rows used term found rows') where
  answered : Says rows (located found rows')
  answered = rw answer.says (answers rows used term answer.within.used_rows_lem)

  pub found_length : length rows' ≡ length rows
  found_length = answered.long

  pub found_row : {row : TermRow} {used' : ℕ} → found ≡ Some (row, used') → row.0 ≡ unset → ⊥
  found_row {row} {used'} e q =
      let below : row.0 < length rows = answered.below row used' e in
      let few : length rows ≤ 4096 = answer.within.few_rows in
      omega arith

  pub full_kept : found ≡ None → rows' ≡ rows
  full_kept e = answered.full e
