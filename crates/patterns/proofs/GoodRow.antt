-- The test of a row by itself says what document 01's table of the forms says.
use Prim.Native.Nat.{ℕ, ◌<◌, ◌≤◌}
use mathlib.Core.Path.{◌≡◌, refl, sym, subst}
use mathlib.Core.Logic.{◌↔◌}
use mathlib.Core.Bool.{Bool, true, false, not, ◌||◌}
use native.Mathlib.Omega.{arith}
use lib.ListN.{get_or, drop}
use lib.Dec.{T, eqb, leb, ltb, nleb→lt}
use Rattle.word.specs.Lowest.{each}
use Rattle.word.proofs.All.{All}
use Rattle.word.proofs.TestLaws.{both, implied, equals, is_below, at_most}
use Rattle.word.proofs.LowestLaws.{each_all}
use Rattle.patterns.specs.Row.{PatternFields, children}
use Rattle.patterns.proofs.ArmLaws.{below_ten}
use Rattle.patterns.specs.Rules.{Form, form, forms, form_fits, row_fits}
use Rattle.patterns.specs.GoodRow.{Zero, GoodKey, GoodRow}

-- the same by a form of the table
record GoodAs (entry : Form) (place : ℕ) (row : PatternFields) : Type 0 where
  v : T (not entry.uses_v) → row.v ≡ 0
  f : T (not entry.uses_f) → row.f ≡ 0
  x : T (not entry.uses_x) → row.x ≡ 0
  y : T (not entry.uses_y) → row.y ≡ 0
  r : T (not entry.uses_r) → row.r ≡ 0
  least : entry.least ≤ row.n
  most : row.n ≤ entry.most
  key : T entry.uses_f → (row.f ≤ 2) × (row.x ≤ 63)
  rest : Zero (drop row.n row.slots)
  spare : row.spare ≡ 0
  below : All (λ child. child < place) (children row)

zero_unless : (used : Bool) (field : ℕ) → T (used || eqb field 0) ↔ (T (not used) → field ≡ 0)
zero_unless true field = (λ h n. absurd n, λ h. tt)
zero_unless false field = (λ h n. (equals field 0).0 h, λ h. (equals field 0).1 (h tt))

good_as : (entry : Form) (place : ℕ) (row : PatternFields) → T (form_fits place row entry) ↔ GoodAs entry place row
good_as entry place row =
    simp (both, zero_unless, implied, at_most, equals, rest, below) (
      λ h.
          record {
            v = h.0.0.0.0.0.0.0.0.0;
            f = h.0.0.0.0.0.0.0.0.1;
            x = h.0.0.0.0.0.0.0.1;
            y = h.0.0.0.0.0.0.1;
            r = h.0.0.0.0.0.1;
            rest = h.0.0.0.0.1;
            spare = h.0.0.0.1;
            least = h.0.0.1.0;
            most = h.0.0.1.1;
            key = h.0.1;
            below = h.1;
          },
      λ g. (((((((((g.v, g.f), g.x), g.y), g.r), g.rest), g.spare), (g.least, g.most)), g.key), g.below),
    )
  where
    rest : T (each (eqb 0) (drop row.n row.slots)) ↔ Zero (drop row.n row.slots)
    rest = each_all (eqb 0) (λ slot. slot ≡ 0) (λ slot. (λ h. sym ((equals 0 slot).0 h), λ e. (equals 0 slot).1 (sym e))) (drop row.n row.slots)

    below : T (each (λ child. ltb child place) (children row)) ↔ All (λ child. child < place) (children row)
    below = each_all (λ child. ltb child place) (λ child. child < place) (λ child. is_below child place) (children row)

abbrev none : Form
none = form false false false false false 0 0

-- a form of the table, by the tag
abbrev entry : PatternFields → ℕ → Form
entry row tag = get_or (forms row.f) tag none

good_fits : (place : ℕ) (row : PatternFields) → T (row_fits place row) ↔ ((row.tag < 10) × GoodAs (entry row row.tag) place row)
good_fits place row =
    let parts = both (ltb row.tag 10) (form_fits place row (entry row row.tag)) in
    let table = good_as (entry row row.tag) place row in
    (λ h. ((is_below row.tag 10).0 (parts.0 h).0, table.0 (parts.0 h).1), λ g. parts.1 ((is_below row.tag 10).1 g.0, table.1 g.1))

module _ (place : ℕ) (row : PatternFields) where
  -- each form from the table
  from_table : (row.tag < 10) × GoodAs (entry row row.tag) place row → GoodRow place row
  from_table h =
      record {
        tag = h.0;
        object = λ e. let g = by_tag 0 e in (g.f tt, (g.x tt, (g.y tt, (g.r tt, (omega (arith, g.most), tt)))));
        raw = λ e. let g = by_tag 1 e in (g.v tt, (g.f tt, (g.x tt, (g.y tt, (omega (arith, g.most), tt)))));
        constant = λ e. let g = by_tag 2 e in (g.f tt, (g.y tt, (g.r tt, (omega (arith, g.most), tt))));
        opposite = λ e. let g = by_tag 3 e in (g.f tt, (g.x tt, (g.r tt, (omega (arith, g.most), tt))));
        key_of = λ e. let g = by_tag 4 e in (g.f tt, (g.x tt, (g.r tt, (omega (arith, g.most), tt))));
        encryption = λ e. let g = by_tag 5 e in (key g, omega (arith, g.least, g.most), (g.r tt, tt));
        signature = λ e. let g = by_tag 6 e in (key g, (omega (arith, g.most), tt));
        hash = λ e. let g = by_tag 7 e in (g.f tt, (g.x tt, (g.y tt, (omega (arith, g.most), tt))));
        tuple = λ e. let g = by_tag 8 e in (g.most, (g.f tt, (g.x tt, (g.y tt, (g.r tt, tt)))));
        let_in = λ e. let g = by_tag 9 e in (omega (arith, g.least, g.most), (g.v tt, (g.f tt, (g.x tt, (g.y tt, tt)))));
        rest = h.1.rest;
        spare = h.1.spare;
        below = h.1.below;
      }
    where
      by_tag : (tag : ℕ) → row.tag ≡ tag → GoodAs (entry row tag) place row
      by_tag tag e = subst (λ (t : ℕ). GoodAs (entry row t) place row) e h.1

      key : {r : Bool} {least most : ℕ} → GoodAs (form true true true (leb 1 row.f) r least most) place row → GoodKey row
      key g = record { form = (g.key tt).0; variable = (g.key tt).1; alone = λ e. g.y (rw e tt) }

  -- and back, tag by tag
  to_table : GoodRow place row → (row.tag < 10) × GoodAs (entry row row.tag) place row
  to_table g = (
    g.tag,
    below_ten (λ tag. row.tag ≡ tag → GoodAs (entry row tag) place row)
        (λ e. let z = g.object e in made no (λ _. z.0) (λ _. z.1.0) (λ _. z.1.1.0) (λ _. z.1.1.1.0) (omega arith) (omega (arith, z.1.1.1.1.0)) no)
        (λ e. let z = g.raw e in made (λ _. z.0) (λ _. z.1.0) (λ _. z.1.1.0) (λ _. z.1.1.1.0) no (omega arith) (omega (arith, z.1.1.1.1.0)) no)
        (λ e. let z = g.constant e in made no (λ _. z.0) no (λ _. z.1.0) (λ _. z.1.1.0) (omega arith) (omega (arith, z.1.1.1.0)) no)
        (λ e. let z = g.opposite e in made no (λ _. z.0) (λ _. z.1.0) no (λ _. z.1.1.0) (omega arith) (omega (arith, z.1.1.1.0)) no)
        (λ e. let z = g.key_of e in made no (λ _. z.0) (λ _. z.1.0) no (λ _. z.1.1.0) (omega arith) (omega (arith, z.1.1.1.0)) no)
        (λ e. let z = g.encryption e in made no no no (alone z.0) (λ _. z.2.0) (omega (arith, z.1)) (omega (arith, z.1)) λ _. (z.0.form, z.0.variable))
        (λ e. let z = g.signature e in made no no no (alone z.0) no (omega arith) (omega (arith, z.1.0)) λ _. (z.0.form, z.0.variable))
        (λ e. let z = g.hash e in made no (λ _. z.0) (λ _. z.1.0) (λ _. z.1.1.0) no (omega arith) (omega (arith, z.1.1.1.0)) no)
        (λ e. let z = g.tuple e in made no (λ _. z.1.0) (λ _. z.1.1.0) (λ _. z.1.1.1.0) (λ _. z.1.1.1.1.0) (omega arith) z.0 no)
        (λ e. let z = g.let_in e in made (λ _. z.1.0) (λ _. z.1.1.0) (λ _. z.1.1.1.0) (λ _. z.1.1.1.1.0) no (omega (arith, z.0)) (omega (arith, z.0)) no)
        row.tag g.tag refl,
  )
    where
      no : {A : Type 0} → ⊥ → A
      no n = absurd n

      made : {entry : Form} → (T (not entry.uses_v) → row.v ≡ 0) → (T (not entry.uses_f) → row.f ≡ 0) → (T (not entry.uses_x) → row.x ≡ 0)
          → (T (not entry.uses_y) → row.y ≡ 0) → (T (not entry.uses_r) → row.r ≡ 0) → entry.least ≤ row.n → row.n ≤ entry.most
          → (T entry.uses_f → (row.f ≤ 2) × (row.x ≤ 63)) → GoodAs entry place row
      made v f x y r least most key =
          record { v = v; f = f; x = x; y = y; r = r; least = least; most = most; key = key; rest = g.rest; spare = g.spare; below = g.below }

      alone : GoodKey row → T (not (leb 1 row.f)) → row.y ≡ 0
      alone key low = let less : row.f < 1 = nleb→lt 1 row.f low in key.alone (omega arith)

  pub good_row : T (row_fits place row) ↔ GoodRow place row
  good_row = (λ h. from_table ((good_fits place row).0 h), λ g. (good_fits place row).1 (to_table g))
