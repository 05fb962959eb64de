-- How a loop comes to the first row that repeats an earlier one, and what the answer says.
use Prim.Native.Nat.{ℕ, ◌+◌, ◌<◌, ◌≤◌}
use mathlib.Core.Path.{◌≡◌, refl, sym, ◌∙◌}
use mathlib.Core.Bool.{Bool, true, false}
use Rattle.std.specs.Prelude.{Option, None, Some}
use Rattle.std.specs.Option.{is_some}
use mathlib.Core.List.{List}
use native.Mathlib.Omega.{arith}
use lib.ListN.{length, get_or, take}
use lib.Seq.{length-take-le, get_or-take}
use Rattle.word.specs.Lowest.{lowest}
use Rattle.word.proofs.TestLaws.{fails, is_true, is_false, stable}
use Rattle.word.proofs.LowestLaws.{lowest_none, lowest_some}
use Rattle.word.proofs.ScanLaws.{placed_nowhere, Left, scan_hit, scan_miss, scan_end}
use Rattle.terms.specs.Finder.{equal_row}
use Rattle.terms.specs.Rules.{earlier_equal}
use Rattle.terms.proofs.FinderLaws.{Absent, equal_absent}
use Rattle.terms.proofs.TableLaws.{no_earlier}
use Rattle.chains.specs.Distinct.{distinct_rows}

-- an earlier row equals a word, or none does
module _ (rows : List ℕ) (row word : ℕ) (inside : row ≤ length rows) where
  pub earlier_none : Absent rows row word → false ≡ earlier_equal rows row word
  earlier_none absent = sym (is_false (earlier_equal rows row word) ((fails (earlier_equal rows row word)).0 ((no_earlier rows row word inside).1 absent)))

  pub earlier_some : (Absent rows row word → ⊥) → true ≡ earlier_equal rows row word
  earlier_some there =
      let test = earlier_equal rows row word in
      sym (is_true test (stable test λ n. there ((no_earlier rows row word inside).0 ((fails test).1 n))))

  -- as a search finds it, whichever row that is
  module _ (place : Option ℕ) (is : place ≡ (equal_row rows row word)) where
    search_there : (first : ℕ) → place ≡ Some first → true ≡ earlier_equal rows row word
    search_there first e = earlier_some λ absent.
        let none_is : equal_row rows row word ≡ None = (equal_absent rows row word inside).1 absent in
        let clash : ◌≡◌ {A = ℕ} 0 1 = cc in
        omega arith

    search_nowhere : place ≡ None → false ≡ earlier_equal rows row word
    search_nowhere e = earlier_none ((equal_absent rows row word inside).0 (placed_nowhere _ is e))

  pub search_decides : (place : Option ℕ) → place ≡ equal_row rows row word → is_some place ≡ earlier_equal rows row word
  search_decides None is = search_nowhere None is refl
  search_decides (Some first) is = search_there (Some first) is first refl

-- none of the rows passed repeats an earlier one
abbrev pub Passed : List ℕ → ℕ → ℕ → Type 0
Passed rows used row = Left (earlier_equal rows) (take used rows) row

module _ (rows : List ℕ) (used : ℕ) (fits : used ≤ length rows) where
  length_used : length (take used rows) ≡ used
  length_used = length-take-le used rows fits

  at_row : (row : ℕ) {again : Bool} → row < used → again ≡ earlier_equal rows row (get_or rows row 0) → earlier_equal rows row (get_or (take used rows) row 0) ≡ again
  at_row row l is = rw (get_or-take used rows row 0 l) (sym is)

  module _ (row : ℕ) (passed : Passed rows used row) where
    pub distinct_stop : (again : Bool) → row < used → again ≡ earlier_equal rows row (get_or rows row 0) → again ≡ true → row ≡ distinct_rows rows used
    unfolding distinct_rows
    distinct_stop again l is e =
        rw (scan_hit (earlier_equal rows) (take used rows) 0 row passed (omega (arith, length_used)) (at_row row l is ∙ e), distinct_rows) refl

    pub distinct_next : (again : Bool) → row < used → again ≡ earlier_equal rows row (get_or rows row 0) → again ≡ false → Passed rows used (row + 1)
    distinct_next again l is e = scan_miss (earlier_equal rows) (take used rows) 0 row passed (omega (arith, length_used)) (at_row row l is ∙ e)

    pub distinct_end : used ≤ row → used ≡ distinct_rows rows used
    unfolding distinct_rows
    distinct_end past = rw (scan_end (earlier_equal rows) (take used rows) 0 row passed (omega (arith, length_used)), distinct_rows) refl

-- the rows before the first that repeats an earlier one
pub record Differing (rows : List ℕ) (used count : ℕ) : Type 0 where
  pub inside : count ≤ used
  pub differs : (row : ℕ) → row < count → earlier_equal rows row (get_or rows row 0) ≡ false
  pub repeats : count < used → earlier_equal rows count (get_or rows count 0) ≡ true

pub distinct_rows_lem : (rows : List ℕ) (used : ℕ) → used ≤ length rows → Differing rows used (distinct_rows rows used)
unfolding distinct_rows
distinct_rows_lem rows used fits = go (lowest (earlier_equal rows) (take used rows)) refl
  where
    again : ℕ → Bool
    again row = earlier_equal rows row (get_or (take used rows) row 0)

    here : (row : ℕ) → row < used → earlier_equal rows row (get_or rows row 0) ≡ again row
    here row l = sym (at_row rows used fits row l refl)

    go : (answer : Option ℕ) → lowest (earlier_equal rows) (take used rows) ≡ answer → Differing rows used (elim answer [ Some row ↦ row | None ↦ used ])
    go (Some count) e =
        let found = (lowest_some (earlier_equal rows) 0 (take used rows) count).0 e in
        let inside : count < used = omega (arith, found.inside, length_used rows used fits) in
        record {
          inside = omega arith;
          differs = λ row l. here row (omega arith) ∙ is_false (again row) ((fails (again row)).0 (found.earlier row l));
          repeats = λ l. here count l ∙ is_true (again count) found.holds;
        }
    go None e =
        record {
          inside = omega arith;
          differs = λ row l. here row l ∙ is_false (again row) ((fails (again row)).0 ((lowest_none (earlier_equal rows) 0 (take used rows)).0 e row (omega (arith, length_used rows used fits))));
          repeats = λ l. absurd (omega arith);
        }
