-- Which row the finder answers, and what is written.
use Prim.Native.Nat.{ℕ, zero, suc, ◌+◌, ◌<◌, ◌≤◌}
use mathlib.Core.Path.{◌≡◌, refl, sym, ◌∙◌, ap, subst}
use mathlib.Core.Logic.{◌↔◌}
use mathlib.Core.Bool.{Bool, not}
use Rattle.std.specs.Prelude.{Option, None, Some}
use mathlib.Core.List.{List}
use native.Mathlib.Decide.{dec_lt, ℕ_discrete}
use native.Mathlib.Omega.{arith}
use lib.ListN.{length, get_or, take, set, length-set}
use lib.Seq.{length-take-le, get_or-take, get_or-set_same, get_or-set_other}
use lib.Dec.{T, not_T, eqb}
use borrow.Author.Tests.{eq-eqb, ne_eqb, lt-ltb, le-ltb}
use Rattle.word.proofs.TestLaws.{equals}
use Rattle.word.proofs.LowestLaws.{lowest_none, lowest_some}
use Rattle.word.proofs.ScanLaws.{placed_at, placed_nowhere}
use Rattle.word.specs.Lowest.{lowest}
use Rattle.terms.specs.Finder.{Found}
use Rattle.terms.specs.Finder.{Located, located, equal_row, locate}
use Rattle.numbers.specs.Sorts.{as_term_row}

-- no used row equals the term
abbrev pub Absent : List ℕ → ℕ → ℕ → Type 0
Absent rows used word = (row : ℕ) → row < used → get_or rows row 0 ≡ word → ⊥

-- no two used rows are equal
abbrev pub Distinct : List ℕ → ℕ → Type 0
Distinct rows used = (a b : ℕ) → a < used → b < used → get_or rows a 0 ≡ get_or rows b 0 → a ≡ b

-- the last row that equals the term, among the used ones
pub record Last (rows : List ℕ) (used word row : ℕ) : Type 0 where
  pub within : row < used
  pub equals : get_or rows row 0 ≡ word
  pub after : (later : ℕ) → row < later → later < used → get_or rows later 0 ≡ word → ⊥

-- where no two are equal, the row that equals the term is the last
pub last_of_distinct : (rows : List ℕ) (used word row : ℕ) → Distinct rows used → row < used → get_or rows row 0 ≡ word → Last rows used word row
last_of_distinct rows used word row distinct h e =
    record { within = h; equals = e; after = λ later l k q. let one = distinct later row k h (q ∙ sym e) in omega arith }

module _ (rows : List ℕ) (word : ℕ) where
  -- the search looks at the newest row, and then at those before it
  pub equal_end : equal_row rows 0 word ≡ None
  unfolding equal_row
  equal_end = refl

  pub equal_here : (row : ℕ) → get_or rows row 0 ≡ word → equal_row rows (suc row) word ≡ Some row
  unfolding equal_row
  equal_here row e = rw (eq-eqb (get_or rows row 0) word e, equal_row)

  pub equal_lower : (row : ℕ) → (get_or rows row 0 ≡ word → ⊥) → equal_row rows (suc row) word ≡ equal_row rows row word
  unfolding equal_row
  equal_lower row other = rw (ne_eqb (get_or rows row 0) word other, equal_row)

  abbrev Says : ℕ → Option ℕ → Type 0
  Says used (Some row) = Last rows used word row
  Says used None = Absent rows used word

  -- one row more, which does not equal the term
  says_more : (used : ℕ) → (get_or rows used 0 ≡ word → ⊥) → (o : Option ℕ) → Says used o → Says (suc used) o
  says_more used other (Some row) s =
      record { within = omega (arith, s.within); equals = s.equals; after = λ later l k e. go later l e (dec_lt later used) k }
    where
      go : (later : ℕ) → row < later → get_or rows later 0 ≡ word → Dec (later < used) → later < suc used → ⊥
      go later l e (yes h) k = s.after later l h e
      go later l e (no h) k = let newest : later ≡ used = omega arith in other (rw newest at e)
  says_more used other None s = λ row l e. go row e (dec_lt row used) l
    where
      go : (row : ℕ) → get_or rows row 0 ≡ word → Dec (row < used) → row < suc used → ⊥
      go row e (yes h) k = s row h e
      go row e (no h) k = let newest : row ≡ used = omega arith in other (rw newest at e)

  says : (used : ℕ) → Says used (equal_row rows used word)
  says zero = rw equal_end (λ row l. absurd (omega arith))
  says (suc used) = go (ℕ_discrete (get_or rows used 0) word) (says used)
    where
      go : Dec (get_or rows used 0 ≡ word) → Says used (equal_row rows used word) → Says (suc used) (equal_row rows (suc used) word)
      go (yes e) before = rw (equal_here used e) (record { within = omega arith; equals = e; after = λ later l k. absurd (omega arith) })
      go (no other) before = rw (equal_lower used other) (says_more used other (equal_row rows used word) before)

module _ (rows : List ℕ) (used word : ℕ) (fits : used ≤ length rows) where
  pub equal_last : (row : ℕ) → (equal_row rows used word ≡ Some row) ↔ Last rows used word row
  equal_last row = (λ e. rw e at (says rows word used), λ last. go last (equal_row rows used word) (says rows word used))
    where
      go : Last rows used word row → (o : Option ℕ) → Says rows word used o → o ≡ Some row
      go last None s = absurd (s row last.within last.equals)
      go last (Some other) s =
          let not_before : ¬ (other < row) = λ l. s.after row l last.within last.equals in
          let not_after : ¬ (row < other) = λ l. last.after other l s.within s.equals in
          ap Some (omega arith)

  pub equal_absent : (equal_row rows used word ≡ None) ↔ Absent rows used word
  equal_absent = (λ e. rw e at (says rows word used), λ absent. go absent (equal_row rows used word) (says rows word used))
    where
      go : Absent rows used word → (o : Option ℕ) → Says rows word used o → o ≡ None
      go absent None s = refl
      go absent (Some row) s = absurd (absent row s.within s.equals)

  length_used : length (take used rows) ≡ used
  length_used = length-take-le used rows fits

  abbrev same : ℕ → ℕ → Bool
  same row other = eqb other word

  -- the test at a used row, and its failure
  here : (row : ℕ) → row < used → T (same row (get_or (take used rows) row 0)) ↔ (get_or rows row 0 ≡ word)
  here row h = rw (get_or-take used rows row 0 h) (equals (get_or rows row 0) word)

  elsewhere : (row : ℕ) → row < used → (get_or rows row 0 ≡ word → ⊥) → T (not (same row (get_or (take used rows) row 0)))
  elsewhere row h n = not_T (same row (get_or (take used rows) row 0)) (λ t. n ((here row h).0 t))

  -- from either end it is the same row, where no two are equal
  pub either_end : Distinct rows used → equal_row rows used word ≡ lowest (λ row other. eqb other word) (take used rows)
  either_end distinct = go (equal_row rows used word) (says rows word used)
    where
      go : (o : Option ℕ) → Says rows word used o → o ≡ lowest same (take used rows)
      go None absent = sym ((lowest_none same 0 (take used rows)).1 λ row l. let inside : row < used = omega (arith, length_used) in elsewhere row inside (absent row inside))
      go (Some row) last =
          let inside : row < used = last.within in
          sym ((lowest_some same 0 (take used rows) row).1 (record {
            inside = omega (arith, length_used);
            holds = (here row inside).1 last.equals;
            earlier = λ lower l. elsewhere lower (omega arith) λ q. let one = distinct lower row (omega arith) inside (q ∙ sym last.equals) in omega arith;
          }))

-- the cases of `locate`
module _ (rows : List ℕ) (used word : ℕ) where
  pub locate_there : (row : ℕ) → equal_row rows used word ≡ Some row → locate rows used word ≡ located (Some (as_term_row row, used)) rows
  unfolding locate
  locate_there row e = rw e

  pub locate_new : equal_row rows used word ≡ None → used < length rows
      → locate rows used word ≡ located (Some (as_term_row used, (used + 1))) (set rows used word)
  unfolding locate
  locate_new e h = rw (e, lt-ltb used (length rows) h)

  pub locate_full : equal_row rows used word ≡ None → length rows ≤ used → locate rows used word ≡ located None rows
  unfolding locate
  locate_full e h = rw (e, le-ltb used (length rows) h)

-- what holds of each answer that there can be holds of the finder's
module _ (rows : List ℕ) (used word : ℕ) (fits : used ≤ length rows) (P : Located → Type 0)
    (present : (row : ℕ) → row < used → get_or rows row 0 ≡ word → P (located (Some (as_term_row row, used)) rows))
    (added : Absent rows used word → used < length rows → P (located (Some (as_term_row used, (used + 1))) (set rows used word)))
    (full : Absent rows used word → length rows ≤ used → P (located None rows)) where
  pub located_as : P (locate rows used word)
  located_as = go (equal_row rows used word) refl (dec_lt used (length rows))
    where
      go : (answer : Option ℕ) → equal_row rows used word ≡ answer → Dec (used < length rows) → P (locate rows used word)
      go (Some row) e room =
          let last = (equal_last rows used word fits row).0 e in
          rw (locate_there rows used word row e) (present row last.within last.equals)
      go None e (yes h) = rw (locate_new rows used word e h) (added ((equal_absent rows used word fits).0 e) h)
      go None e (no h) = rw (locate_full rows used word e (omega arith)) (full ((equal_absent rows used word fits).0 e) (omega arith))

-- the same as the code meets them, after its search
module _ (rows : List ℕ) (used word : ℕ) (place : Option ℕ) (is : place ≡ (equal_row rows used word)) where
  pub find_there : (row : ℕ) → place ≡ Some row → located (Some (as_term_row row, used)) rows ≡ locate rows used word
  find_there row e = sym (locate_there rows used word row (placed_at _ is e))

  pub find_new : place ≡ None → used < length rows
      → located (Some (as_term_row used, (used + 1))) (set rows used word) ≡ locate rows used word
  find_new e h = sym (locate_new rows used word (placed_nowhere _ is e) h)

  pub find_full : place ≡ None → length rows ≤ used → located None rows ≡ locate rows used word
  find_full e h = sym (locate_full rows used word (placed_nowhere _ is e) h)

  pub find_below : used ≤ length rows → (row : ℕ) → place ≡ Some row → row < used
  find_below fits row e = ((equal_last rows used word fits row).0 (placed_at _ is e)).within

pub ruleset find-ways = (find_there, find_new, find_full)

-- the rows are as they were
pub record Kept (rows after : List ℕ) : Type 0 where
  pub long : length after ≡ length rows
  pub each : (row : ℕ) → get_or after row 0 ≡ get_or rows row 0

-- a term was written at one row, and every other row is as it was
pub record Wrote (rows : List ℕ) (at word : ℕ) (after : List ℕ) : Type 0 where
  pub long : length after ≡ length rows
  pub here : get_or after at 0 ≡ word
  pub others : (row : ℕ) → (row ≡ at → ⊥) → get_or after row 0 ≡ get_or rows row 0

kept : (rows : List ℕ) → Kept rows rows
kept rows = record { long = refl; each = λ row. refl }

wrote : (rows : List ℕ) (at word : ℕ) → at < length rows → Wrote rows at word (set rows at word)
wrote rows at word h =
    record { long = length-set rows at word; here = get_or-set_same rows at word 0 h; others = λ row other. get_or-set_other rows at row word 0 other }

-- what an answer of the finder says, with the rows after it
module _ (rows : List ℕ) (used word : ℕ) (fits : used ≤ length rows)
    (found : Found) (after : List ℕ) (says : located found after ≡ locate rows used word) where
  parts : (other : Found) (others : List ℕ) (P : List ℕ → Type 0)
      → locate rows used word ≡ located other others → P others → (found ≡ other) × P after
  parts other others P e p =
      let q = says ∙ e in
      (ap (λ (l : Located). l.found) q, subst P (ap (λ (l : Located). l.rows) (sym q)) p)

  pub takes_equal_row : (row : ℕ) → Last rows used word row → (found ≡ Some (as_term_row row, used)) × Kept rows after
  takes_equal_row row last =
      parts _ rows (Kept rows) (locate_there rows used word row ((equal_last rows used word fits row).1 last)) (kept rows)

  pub takes_unused_row : Absent rows used word → used < length rows → (found ≡ Some (as_term_row used, (used + 1))) × Wrote rows used word after
  takes_unused_row absent h =
      parts _ (set rows used word) (Wrote rows used word) (locate_new rows used word ((equal_absent rows used word fits).1 absent) h)
      (wrote rows used word h)

  pub takes_no_row : Absent rows used word → length rows ≤ used → (found ≡ None) × Kept rows after
  takes_no_row absent h = parts _ rows (Kept rows) (locate_full rows used word ((equal_absent rows used word fits).1 absent) h) (kept rows)
