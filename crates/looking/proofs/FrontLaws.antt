-- The front of a table gives the same checks as the whole, where every row behind it is zero.
use Prim.Native.Nat.{ℕ, ◌<◌, ◌≤◌}
use mathlib.Core.Path.{◌≡◌, refl, sym, ◌∙◌, ap, fun_ext}
use mathlib.Core.Bool.{Bool, false, not}
use Rattle.std.specs.Prelude.{Option, None, Some}
use mathlib.Core.List.{List}
use native.Mathlib.Decide.{dec_lt}
use native.Mathlib.Omega.{arith}
use borrow.Author.Tests.{le-leb, le-ltb}
use lib.Dec.{T, leb}
use lib.ListN.{length, get_or, take, get_or-eq_default}
use lib.Seq.{get_or-take, length-take-le, take_all, take-take}
use Rattle.word.specs.Lowest.{lowest}
use Rattle.word.proofs.LowestLaws.{lowest_none, lowest_some}
use Rattle.answers.specs.First.{first}
use Rattle.answers.specs.declared.Ran.{Ran}
use Rattle.numbers.specs.Limits.{most_term_rows}
use Rattle.terms.specs.Shape.{Shape, atom, encrypted, signed, hashed, tupled}
use Rattle.terms.specs.Row.{shape_of}
use Rattle.terms.specs.Rules.{used_rows, key_kind_fits, earlier_equal, bad_term_row, bad_term}
use Rattle.terms.proofs.TableLaws.{used_rows_lem, used_once}
use Rattle.stores.specs.Certificates.{agent_of, key_of, pair_fits}
use Rattle.stores.specs.Valid.{object_fits, valid}
use Rattle.calls.specs.Run.{Lent, refusals}
use Rattle.looking.specs.Found.{found_by}
use Rattle.looking.specs.Front.{Front}

-- a table is its own front
pub whole_front : (rows : List ℕ) → Front rows (length rows)
whole_front rows = record { inside = omega arith; zeros = λ row l. get_or-eq_default rows 0 l; few = λ l. absurd (omega arith) }

module _ {rows : List ℕ} {front : ℕ} (cut : Front rows front) where
  abbrev part : List ℕ
  part = take front rows

  length_part : length part ≡ front
  length_part = length-take-le front rows cut.inside

  -- the same row at every number
  same_row : (row : ℕ) → get_or part row 0 ≡ get_or rows row 0
  same_row row = go (dec_lt row front)
    where
      go : Dec (row < front) → get_or part row 0 ≡ get_or rows row 0
      go (yes l) = get_or-take front rows row 0 l
      go (no h) = get_or-eq_default part 0 (omega (arith, length_part)) ∙ sym (cut.zeros row (omega arith))

  used_inside : used_rows rows ≤ front
  used_inside = go (dec_lt front (used_rows rows))
    where
      go : Dec (front < used_rows rows) → used_rows rows ≤ front
      go (yes l) = absurd ((used_rows_lem rows).nonzero front l (cut.zeros front (omega arith)))
      go (no h) = omega arith

  pub same_used : used_rows part ≡ used_rows rows
  same_used =
      let u = used_rows_lem rows in
      used_once (record {
        inside = omega (arith, length_part, used_inside);
        nonzero = λ row l. rw (same_row row) (u.nonzero row l);
        ends = same_row (used_rows rows) ∙ u.ends;
      })

  -- neither is too long, or both are
  pub same_length : leb (length part) most_term_rows ≡ leb (length rows) most_term_rows
  same_length = go (dec_lt front (length rows))
    where
      go : Dec (front < length rows) → leb (length part) most_term_rows ≡ leb (length rows) most_term_rows
      go (yes l) = let most = cut.few l in le-leb (length part) most_term_rows (omega (arith, length_part)) ∙ sym (le-leb (length rows) most_term_rows most)
      go (no h) = ap (λ (all : List ℕ). leb (length all) most_term_rows) (take_all front rows (omega arith))

  -- 2
  same_key : (shape : Shape ℕ) → key_kind_fits part shape ≡ key_kind_fits rows shape
  unfolding key_kind_fits
  same_key (atom tag number) = refl
  same_key (encrypted key body) = rw (same_row key)
  same_key (signed key body) = rw (same_row key)
  same_key (hashed body) = refl
  same_key (tupled parts) = refl

  module _ (counter : ℕ) where
    abbrev bad : List ℕ → ℕ → Bool
    bad all row = bad_term_row all counter row (get_or all row 0)

    bad_same : (row : ℕ) → row < front → bad part row ≡ bad rows row
    unfolding bad_term_row earlier_equal
    bad_same row l = rw (same_row row, same_used, same_key (shape_of (get_or rows row 0)), take-take row front rows (omega arith))

    good_behind : (row : ℕ) → front ≤ row → bad rows row ≡ false
    unfolding bad_term_row
    good_behind row l = rw (cut.zeros row l, le-ltb row (used_rows rows) (omega (arith, used_inside)))

    pub same_bad_term : bad_term part counter ≡ bad_term rows counter
    unfolding bad_term
    same_bad_term = go (lowest (bad_term_row part counter) part) refl
      where
        go : (o : Option ℕ) → lowest (bad_term_row part counter) part ≡ o → lowest (bad_term_row part counter) part ≡ lowest (bad_term_row rows counter) rows
        go None e = e ∙ sym ((lowest_none (bad_term_row rows counter) 0 rows).1 λ row l. passed row (dec_lt row front))
          where
            passed : (row : ℕ) → Dec (row < front) → T (not (bad rows row))
            passed row (yes h) = rw (← (bad_same row h)) ((lowest_none (bad_term_row part counter) 0 part).0 e row (omega (arith, length_part)))
            passed row (no h) = rw (good_behind row (omega arith)) tt
        go (Some row) e =
            let found = (lowest_some (bad_term_row part counter) 0 part row).0 e in
            let inside : row < front = omega (arith, length_part, found.inside) in
            e ∙ sym ((lowest_some (bad_term_row rows counter) 0 rows row).1 (record {
              inside = omega (arith, cut.inside);
              holds = rw (← (bad_same row inside)) found.holds;
              earlier = λ lower l. rw (← (bad_same lower (omega arith))) (found.earlier lower l);
            }))

  -- 3
  same_object : (used kind cell : ℕ) → object_fits part used kind cell ≡ object_fits rows used kind cell
  same_object used kind cell = rw (same_row cell)

  same_pair : (used word : ℕ) → pair_fits part used word ≡ pair_fits rows used word
  unfolding pair_fits
  same_pair used word = rw (same_row (agent_of word), same_row (key_of word))

  pub same_valid : (used : ℕ) (kinds objects messages certificates : List ℕ) (accumulator : ℕ)
      → valid part used kinds objects messages certificates accumulator ≡ valid rows used kinds objects messages certificates accumulator
  unfolding valid
  same_valid used kinds objects messages certificates accumulator =
      let objects_same : object_fits part used ≡ object_fits rows used = fun_ext λ kind. fun_ext λ cell. same_object used kind cell in
      let pairs_same : pair_fits part used ≡ pair_fits rows used = fun_ext λ word. same_pair used word in
      rw (objects_same, pairs_same)

-- what was lent, with so many first rows
abbrev pub cut_to : ℕ → Lent → Lent
cut_to front x = record {
  kinds = x.kinds;
  objects = x.objects;
  messages = x.messages;
  certificates = x.certificates;
  accumulator = x.accumulator;
  terms = take front x.terms;
  counter = x.counter;
}

-- so the look finds the same
module _ (x : Lent) (code : List ℕ) {front : ℕ} (cut : Front x.terms front) where
  refused_same : refusals (cut_to front x) code ≡ refusals x code
  refused_same =
      rw (
        same_length cut,
        same_bad_term cut x.counter,
        same_used cut,
        same_valid cut (used_rows x.terms) x.kinds x.objects x.messages x.certificates x.accumulator,
      )

  counted_same : (o : Option Ran) → found_by o (take front x.terms) ≡ found_by o x.terms
  counted_same (Some answer) = rw (same_used cut)
  counted_same None = rw (same_used cut)

  pub found_same : found_by (first (refusals (cut_to front x) code)) (take front x.terms) ≡ found_by (first (refusals x code)) x.terms
  found_same = counted_same (first (refusals (cut_to front x) code)) ∙ ap (λ all. found_by (first all) x.terms) refused_same
