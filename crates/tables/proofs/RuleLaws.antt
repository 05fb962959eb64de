-- The rules of a row, a way out of the code at a time.
use Rattle.std.specs.Prelude.{Ok, Err}
use Rattle.std.specs.Prelude.{None}
use Prim.Native.Nat.{ℕ, suc, ◌+◌, ◌<◌, ◌≤◌}
use mathlib.Core.Path.{◌≡◌, refl, sym, ◌∙◌, ap}
use mathlib.Core.Bool.{Bool, true, false, not, ◌&&◌, and-true, and-false}
use Rattle.std.specs.Prelude.{Option, Some}
use mathlib.Core.List.{List, [], ◌∷◌}
use native.Mathlib.Decide.{dec_lt}
use native.Mathlib.Omega.{arith}
use lib.ListN.{length, get_or, take, drop}
use lib.Dec.{eqb, leb, ltb}
use borrow.Author.Tests.{eq-eqb, ne_eqb, le-leb, lt-leb, lt-ltb, le-ltb}
use Rattle.word.specs.Lowest.{each, one_of, lowest_from}
use Rattle.word.proofs.OneOfLaws.{one_here, one_later, one_last}
use Rattle.word.proofs.ScanLaws.{placed_at, placed_nowhere, Left, scan_hit, scan_miss, each_stop, each_next, each_end}
use Rattle.terms.specs.Shape.{Shape, atom, encrypted, signed, hashed, tupled, parts_of}
use Rattle.terms.specs.Row.{row_of, tag_of, shape_of}
use Rattle.terms.specs.Rules.{known_tag, is_packed, number_fits, parts_below, key_kind_fits, earlier_equal, used_rows, shape_fits, fits, bad_term_row, nonzero_row, bad_term, checked_by, checked}
use Rattle.terms.proofs.TableLaws.{used_rows_lem}
use Rattle.chains.specs.Distinct.{distinct_rows}
use Rattle.chains.proofs.DistinctLaws.{Differing, distinct_rows_lem}
use Rattle.terms.proofs.ShapeLaws.{field, slots_of, number_of, Plain, shape_encrypted, shape_signed, shape_hashed, shape_tupled, shape_atom, by_tag, parts_taken, parts_at, slots_atom}

-- a flag that goes through `&&`: the next rule was looked at, or the flag was false already
pub and_more : {flag all next rule : Bool} → flag ≡ all → flag ≡ true → next ≡ rule → next ≡ all && rule
and_more {all = all} {rule = rule} is e q = rw (sym is ∙ e) q

pub and_kept : {flag all next : Bool} (rule : Bool) → flag ≡ all → flag ≡ false → next ≡ flag → next ≡ all && rule
and_kept {all = all} rule is e q = rw (sym is ∙ e) (q ∙ e)

pub known_low : (word tag : ℕ) → tag ≡ tag_of word → tag < 1 → leb 1 tag ≡ known_tag word
unfolding known_tag
known_low word tag is low = rw (← is, lt-leb 1 tag low)

pub known_high : (word tag : ℕ) → tag ≡ tag_of word → 1 ≤ tag → leb tag 10 ≡ known_tag word
unfolding known_tag
known_high word tag is high = rw (← is, le-leb 1 tag high)

pub ruleset known-ways = (known_low, known_high)

-- the word that was made of a row's fields is compared with the row
module _ (word : ℕ) where
  packed : (made : ℕ) (shape : Shape ℕ) → shape_of word ≡ shape → made ≡ row_of shape → eqb made word ≡ is_packed word
  unfolding is_packed
  packed made shape e q = rw (e, q)

module _ (word tag : ℕ) (is : tag ≡ tag_of word) where
  pub packed_encrypted : (key body made : ℕ) → tag ≡ 7 → key ≡ field 3 word → body ≡ field 4 word
      → made ≡ row_of (encrypted key body) → eqb made word ≡ is_packed word
  packed_encrypted key body made e k b q = packed word made _ (shape_encrypted word (sym is ∙ e)) (rw (k, b) at q)

  pub packed_signed : (key body made : ℕ) → tag ≡ 8 → key ≡ field 3 word → body ≡ field 4 word
      → made ≡ row_of (signed key body) → eqb made word ≡ is_packed word
  packed_signed key body made e k b q = packed word made _ (shape_signed word (sym is ∙ e)) (rw (k, b) at q)

  pub packed_hashed : (body made : ℕ) → tag ≡ 9 → body ≡ field 3 word → made ≡ row_of (hashed body) → eqb made word ≡ is_packed word
  packed_hashed body made e b q = packed word made _ (shape_hashed word (sym is ∙ e)) (rw b at q)

  pub packed_tupled : (slots : List ℕ) (n made : ℕ) → tag ≡ 10 → slots ≡ slots_of word → n ≡ length (parts_of (shape_of word))
      → made ≡ row_of (tupled (take n slots)) → eqb made word ≡ is_packed word
  packed_tupled slots n made e s k q =
      let shape = shape_tupled word (sym is ∙ e) in
      let parts : take n slots ≡ parts_of (shape_of word) = rw (s, k) (sym (parts_taken word)) in
      packed word made (tupled (parts_of (shape_of word))) (shape ∙ ap (λ (s : Shape ℕ). tupled (parts_of s)) (sym shape)) (rw parts at q)

  pub packed_atom : (number made : ℕ) → (tag ≡ 7 → ⊥) → (tag ≡ 8 → ⊥) → (tag ≡ 9 → ⊥) → (tag ≡ 10 → ⊥)
      → number ≡ number_of word → made ≡ row_of (atom tag number) → eqb made word ≡ is_packed word
  packed_atom number made a b c d n q = packed word made _ (shape_atom word (λ low high. omega arith)) (rw (is, n) at q)

pub ruleset packed-ways = (packed_encrypted, packed_signed, packed_hashed, packed_tupled, packed_atom)

-- the rule of a number
module _ (word tag : ℕ) (is : tag ≡ tag_of word) (counter : ℕ) where
  pub number_byte : (number : ℕ) → tag ≡ 1 → number ≡ number_of word → ltb number 256 ≡ number_fits counter (shape_of word)
  unfolding number_fits
  number_byte number e n = rw (shape_atom word (λ low high. omega arith), n, ← is, e)

  pub number_agent : tag ≡ 3 → true ≡ number_fits counter (shape_of word)
  unfolding number_fits
  number_agent e = rw (shape_atom word (λ low high. omega arith), ← is, e)

  pub number_none : 7 ≤ tag → tag < 11 → true ≡ number_fits counter (shape_of word)
  unfolding number_fits
  number_none low high =
      by_tag word (λ (shape : Shape ℕ). true ≡ number_fits counter shape) (λ e. refl) (λ e. refl) (λ e. refl) (λ e. refl)
      (λ plain. absurd (plain (omega arith) (omega arith)))

  pub number_name : (number : ℕ) → (tag ≡ 1 → ⊥) → (tag ≡ 3 → ⊥) → Plain tag → number ≡ number_of word
      → ltb number counter ≡ number_fits counter (shape_of word)
  unfolding number_fits
  number_name number a b plain n =
      rw (shape_atom word (λ low high. plain (omega arith) (omega arith)), n, ← is, ne_eqb tag 1 a, ne_eqb tag 3 b)

pub ruleset number-ways = (number_byte, number_agent, number_none)

-- the rule of the parts: a loop over the slots
abbrev pub Below : ℕ → ℕ → ℕ → Type 0
Below row word slot = each (λ part. ltb part row) (parts_of (shape_of word)) ≡ each (λ part. ltb part row) (drop slot (parts_of (shape_of word)))

module _ (row word slot part : ℕ) (inside : slot < length (parts_of (shape_of word)))
    (below : Below row word slot) (is : part ≡ field (3 + slot) word) where
  pub below_stop : row ≤ part → false ≡ parts_below row (shape_of word)
  unfolding parts_below
  below_stop h = sym (each_stop (λ part. ltb part row) _ (parts_of (shape_of word)) 0 slot below inside (rw (parts_at word slot inside, ← is, le-ltb part row h)))

  pub below_more : part < row → Below row word (slot + 1)
  below_more h = each_next (λ part. ltb part row) _ (parts_of (shape_of word)) 0 slot below inside (rw (parts_at word slot inside, ← is, lt-ltb part row h))

pub below_end : (row word slot : ℕ) → length (parts_of (shape_of word)) ≤ slot → Below row word slot → true ≡ parts_below row (shape_of word)
unfolding parts_below
below_end row word slot h below = sym (each_end _ _ (parts_of (shape_of word)) 0 slot below h)

-- the rule of a key
module _ (rows : List ℕ) (word tag : ℕ) (is : tag ≡ tag_of word) where
  pub key_encrypted : (key : ℕ) (fit : Bool) → tag ≡ 7 → key ≡ field 3 word → fit ≡ one_of (4 ∷ 6 ∷ []) (tag_of (get_or rows key 0))
      → fit ≡ key_kind_fits rows (shape_of word)
  unfolding key_kind_fits
  key_encrypted key fit e k f = rw (shape_encrypted word (sym is ∙ e), ← k) f

  pub key_signed : (key : ℕ) (fit : Bool) → tag ≡ 8 → key ≡ field 3 word → fit ≡ one_of (5 ∷ 6 ∷ []) (tag_of (get_or rows key 0))
      → fit ≡ key_kind_fits rows (shape_of word)
  unfolding key_kind_fits
  key_signed key fit e k f = rw (shape_signed word (sym is ∙ e), ← k) f

  pub key_none : (tag ≡ 7 → ⊥) → (tag ≡ 8 → ⊥) → true ≡ key_kind_fits rows (shape_of word)
  unfolding key_kind_fits
  key_none a b =
      by_tag word (λ (shape : Shape ℕ). true ≡ key_kind_fits rows shape) (λ e. absurd (a (is ∙ e))) (λ e. absurd (b (is ∙ e)))
      (λ e. refl) (λ e. refl) (λ plain. refl)

pub ruleset key-ways = (key_encrypted, key_signed, key_none)

-- one of two kinds
module _ (rows : List ℕ) (key word tag kind : ℕ) (row : word ≡ get_or rows key 0) (is : tag ≡ tag_of word) where
  whose : tag ≡ tag_of (get_or rows key 0)
  whose = is ∙ ap tag_of row

  pub kind_first : tag ≡ kind → eqb tag kind ≡ one_of (kind ∷ 6 ∷ []) (tag_of (get_or rows key 0))
  kind_first e = rw (← whose) (eq-eqb tag kind e ∙ sym (one_here kind (6 ∷ []) tag e))

  pub kind_second : (tag ≡ kind → ⊥) → eqb tag 6 ≡ one_of (kind ∷ 6 ∷ []) (tag_of (get_or rows key 0))
  kind_second e = rw (← whose) (one_last 6 tag ∙ sym (one_later kind (6 ∷ []) tag e))

pub ruleset kind-ways = (kind_first, kind_second)

-- the rules of a shape: a row without parts meets those of its parts and its key, and the number of any other is not looked at
module _ (rows : List ℕ) (counter row word tag : ℕ) (is : tag ≡ tag_of word) (fit : Bool) where
  pub shape_atom_fits : tag < 7 → fit ≡ known_tag word && is_packed word && number_fits counter (shape_of word) → fit ≡ shape_fits rows counter row word
  shape_atom_fits low says =
      let few : 0 ≡ length (parts_of (shape_of word)) = slots_atom word tag is (λ least most. omega arith) in
      let parts : true ≡ parts_below row (shape_of word) = below_end row word 0 (omega arith) refl in
      let keys : true ≡ key_kind_fits rows (shape_of word) = key_none rows word tag is (λ e. omega arith) (λ e. omega arith) in
      let alone = known_tag word && is_packed word && number_fits counter (shape_of word) in
      rw (← parts, ← keys, and-true (alone && true), and-true alone) says

  pub shape_owner_fits : 7 ≤ tag → fit ≡ known_tag word && is_packed word && parts_below row (shape_of word) && key_kind_fits rows (shape_of word)
      → fit ≡ shape_fits rows counter row word
  shape_owner_fits high says = go (dec_lt tag 11)
    where
      go : Dec (tag < 11) → fit ≡ shape_fits rows counter row word
      go (yes low) = rw (← (number_none word tag is counter high low), and-true) says
      go (no past) =
          let unknown : known_tag word ≡ false = sym (known_high word tag is (omega arith)) ∙ lt-leb tag 10 (omega arith) in
          rw unknown (rw unknown at says)

pub ruleset shape-ways = (shape_atom_fits, shape_owner_fits)

-- the check of a table: a loop over its used rows
pub used_inside : (rows : List ℕ) {used : ℕ} → used ≡ used_rows rows → used ≤ length rows
used_inside rows is = rw is (used_rows_lem rows).inside

pub distinct_inside : (rows : List ℕ) {used distinct : ℕ} → used ≤ length rows → distinct ≡ distinct_rows rows used → distinct ≤ used
distinct_inside rows fits is = rw is (distinct_rows_lem rows _ fits).inside

module _ (rows : List ℕ) (counter used : ℕ) (is : used ≡ used_rows rows) where
  module _ (row : ℕ) (passed : Left (bad_term_row rows counter) rows row) (inside : row < used)
      (fit : Bool) (fitting : fit ≡ fits rows counter row (get_or rows row 0)) where
    bad_used : not fit ≡ bad_term_row rows counter row (get_or rows row 0)
    unfolding bad_term_row
    bad_used = rw (← is, lt-ltb row used inside, ← fitting)

    within : row < length rows
    within = omega (arith, used_inside rows is)

    found_bad : not fit ≡ true → Err row ≡ checked rows counter
    unfolding bad_term
    found_bad e = ap (λ (answer : Option ℕ). checked_by answer rows) (sym (scan_hit (bad_term_row rows counter) rows 0 row passed within (sym bad_used ∙ e)))

    found_good : not fit ≡ false → Left (bad_term_row rows counter) rows (row + 1)
    found_good e = scan_miss (bad_term_row rows counter) rows 0 row passed within (sym bad_used ∙ e)

  -- rows that differ from all before them have the rules of their shape left, and the row behind them repeats an earlier one
  module _ (distinct : ℕ) (differing : distinct ≡ distinct_rows rows used) (row : ℕ) (passed : Left (bad_term_row rows counter) rows row) where
    known : Differing rows used distinct
    known = rw differing (distinct_rows_lem rows used (used_inside rows is))

    module _ (inside : row < distinct) (fit : Bool) (fitting : fit ≡ shape_fits rows counter row (get_or rows row 0)) where
      fits_all : fit ≡ fits rows counter row (get_or rows row 0)
      fits_all = fitting ∙ rw (known.differs row inside) (sym (and-true (shape_fits rows counter row (get_or rows row 0))))

      pub checked_bad : not fit ≡ true → Err row ≡ checked rows counter
      checked_bad = found_bad row passed (omega (arith, known.inside)) fit fits_all

      pub checked_more : not fit ≡ false → Left (bad_term_row rows counter) rows (row + 1)
      checked_more = found_good row passed (omega (arith, known.inside)) fit fits_all

    pub checked_repeated : row ≡ distinct → distinct < used → Err distinct ≡ checked rows counter
    checked_repeated end inside =
        let again : earlier_equal rows row (get_or rows row 0) ≡ true = rw end (known.repeats (omega arith)) in
        rw (← end)
        (found_bad row passed (omega arith) false (rw again (sym (and-false (shape_fits rows counter row (get_or rows row 0))))) refl)

  bad_unused : (row word : ℕ) → used ≤ row → bad_term_row rows counter row word ≡ not (eqb word 0)
  unfolding bad_term_row
  bad_unused row word h = rw (← is, le-ltb row used h)

  bad_behind : (row : ℕ) (rest : List ℕ) → used ≤ row → lowest_from row (bad_term_row rows counter) rest ≡ lowest_from row (λ row word. not (eqb word 0)) rest
  unfolding lowest_from
  bad_behind row [] h = refl
  bad_behind row (word ∷ rest) h =
      ap (λ (bad : Bool). elim bad [ true ↦ Some row | false ↦ lowest_from (suc row) (bad_term_row rows counter) rest ]) (bad_unused row word h)
      ∙ ap (λ (later : Option ℕ). elim (not (eqb word 0)) [ true ↦ Some row | false ↦ later ]) (bad_behind (suc row) rest (omega arith))

  -- and the rows behind them
  module _ (row : ℕ) (passed : Left (bad_term_row rows counter) rows row) (end : row ≡ used)
      (behind : Option ℕ) (says : behind ≡ (nonzero_row rows used)) where
    bad_term_lem : bad_term rows counter ≡ nonzero_row rows used
    unfolding bad_term nonzero_row
    bad_term_lem = rw (← end) (passed ∙ bad_behind row (drop row rows) (omega arith))

    pub checked_behind : (place : ℕ) → behind ≡ Some place → Err place ≡ checked rows counter
    checked_behind place e = ap (λ (answer : Option ℕ). checked_by answer rows) (sym (bad_term_lem ∙ placed_at (nonzero_row rows used) says e))

    pub checked_good : behind ≡ None → Ok used ≡ checked rows counter
    checked_good e =
        ap Ok is ∙ ap (λ (answer : Option ℕ). checked_by answer rows) (sym (bad_term_lem ∙ placed_nowhere (nonzero_row rows used) says e))
