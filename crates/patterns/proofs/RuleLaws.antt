-- The tests of refusal 4 say what document 01 says.
use Prim.Native.Nat.{ℕ, zero, suc, ◌-◌, ◌<◌}
use mathlib.Core.Path.{◌≡◌, refl, sym, ◌∙◌}
use mathlib.Core.Logic.{◌↔◌, ◌⊎◌, inl, inr, ⊎_elim}
use mathlib.Core.Bool.{Bool, true, false, not}
use Rattle.std.specs.Prelude.{Option, None, Some}
use mathlib.Core.List.{List, [], ◌∷◌, flat_map}
use native.Mathlib.Omega.{arith}
use lib.ListN.{length, get_or, take}
use lib.Seq.{length-take-le, get_or-take}
use lib.Dec.{T, T_not, not_T, eqb, eqb→eq}
use Rattle.word.specs.Lowest.{lowest, LowestWith, NoneWith, one_of}
use Rattle.word.proofs.TestLaws.{either, equals}
use Rattle.word.proofs.LowestLaws.{one_of_lem, none_with, lowest_with}
use Rattle.patterns.specs.Row.{children_of}
use Rattle.patterns.specs.Rules.{row_fits, repeats, children_named, bad_row, unnamed, bad_pattern}
use Rattle.patterns.proofs.MarkLaws.{one_append}
use Rattle.patterns.specs.GoodRow.{GoodRow, fields_at, children_at, NamesChild, TakenBefore, NamesTaken, BadRow, Unnamed}
use Rattle.patterns.proofs.GoodRow.{good_row}

-- a child that some row names
abbrev pub Named : List ℕ → ℕ → Type 0
Named rows child = (owner : ℕ) × (slot : ℕ) × NamesChild rows owner slot child

module _ (word : ℕ) (rest : List ℕ) (child : ℕ) where
  -- a name in the first row, and in the others
  named_first : T (one_of (children_of word) child) → Named (word ∷ rest) child
  named_first h = let s = (one_of_lem (children_of word) child).0 h in (0, s.0, record { inside = omega arith; used = s.1; here = s.2 })

  named_later : Named rest child → Named (word ∷ rest) child
  named_later n = (suc n.0, n.1, record { inside = omega (arith, n.2.inside); used = n.2.used; here = n.2.here })

  named_split : (owner slot : ℕ) → NamesChild (word ∷ rest) owner slot child → T (one_of (children_of word) child) ⊎ Named rest child
  named_split zero slot n = inl ((one_of_lem (children_of word) child).1 (slot, n.used, n.here))
  named_split (suc owner) slot n = inr (owner, slot, record { inside = omega (arith, n.inside); used = n.used; here = n.here })

named_says : (rows : List ℕ) (child : ℕ) → T (one_of (children_named rows) child) ↔ Named rows child
unfolding flat_map one_of
named_says [] child = (λ h. absurd h, λ n. absurd (omega (arith, n.2.inside)))
named_says (word ∷ rest) child =
    let ih = named_says rest child in
    let parts = either (one_of (children_of word) child) (one_of (children_named rest) child) in
    rw (one_append (children_of word) (children_named rest) child) (
      λ h. ⊎_elim (named_first word rest child) (λ later. named_later word rest child (ih.0 later)) (parts.0 h),
      λ n. parts.1 (⊎_elim inl (λ later. inr (ih.1 later)) (named_split word rest child n.0 n.1 n.2)),
    )

-- a slot whose child is among some, or in a slot before
abbrev Again : List ℕ → List ℕ → Type 0
Again taken children =
    (slot : ℕ) × (slot < length children)
    × (T (one_of taken (get_or children slot 0)) ⊎ ((other : ℕ) × (other < slot) × (get_or children other 0 ≡ get_or children slot 0)))

module _ (child : ℕ) (taken rest : List ℕ) where
  one_more : (n : ℕ) → T (one_of (child ∷ taken) n) ↔ (T (eqb child n) ⊎ T (one_of taken n))
  unfolding one_of
  one_more n = either (eqb child n) (one_of taken n)

  again_later : Again (child ∷ taken) rest → Again taken (child ∷ rest)
  again_later a = (suc a.0, omega (arith, a.1), ⊎_elim first (λ o. inr (suc o.0, omega (arith, o.1), o.2)) a.2)
    where
      first : T (one_of (child ∷ taken) (get_or rest a.0 0)) → T (one_of taken (get_or rest a.0 0)) ⊎ ((other : ℕ) × (other < suc a.0) × (get_or (child ∷ rest) other 0 ≡ get_or rest a.0 0))
      first h = ⊎_elim (λ e. inr (0, omega arith, eqb→eq _ _ e)) inl ((one_more (get_or rest a.0 0)).0 h)

  again_split : (slot : ℕ) → slot < length (child ∷ rest)
      → T (one_of taken (get_or (child ∷ rest) slot 0)) ⊎ ((other : ℕ) × (other < slot) × (get_or (child ∷ rest) other 0 ≡ get_or (child ∷ rest) slot 0))
      → T (one_of taken child) ⊎ Again (child ∷ taken) rest
  again_split zero inside (inl h) = inl h
  again_split zero inside (inr o) = absurd (omega (arith, o.1))
  again_split (suc slot) inside (inl h) = inr (slot, omega arith, inl ((one_more (get_or rest slot 0)).1 (inr h)))
  again_split (suc slot) inside (inr o) = inr (slot, omega arith, earlier o.0 o.1 o.2)
    where
      earlier : (other : ℕ) → other < suc slot → get_or (child ∷ rest) other 0 ≡ get_or rest slot 0
          → T (one_of (child ∷ taken) (get_or rest slot 0)) ⊎ ((other : ℕ) × (other < slot) × (get_or rest other 0 ≡ get_or rest slot 0))
      earlier zero less same = inl ((one_more (get_or rest slot 0)).1 (inl ((equals child (get_or rest slot 0)).1 same)))
      earlier (suc other) less same = inr (other, omega arith, same)

again_says : (taken children : List ℕ) → T (repeats taken children) ↔ Again taken children
unfolding repeats
again_says taken [] = (λ h. absurd h, λ a. absurd (omega (arith, a.1)))
again_says taken (child ∷ rest) =
    let ih = again_says (child ∷ taken) rest in
    let parts = either (one_of taken child) (repeats (child ∷ taken) rest) in (
      λ h. ⊎_elim (λ here. (0, omega arith, inl here)) (λ there. again_later child taken rest (ih.0 there)) (parts.0 h),
      λ a. parts.1 (⊎_elim inl (λ there. inr (ih.1 there)) (again_split child taken rest a.0 a.1 a.2)),
    )

module _ (rows : List ℕ) (place : ℕ) (inside : place < length rows) where
  -- the rows before a place
  front_length : length (take place rows) ≡ place
  front_length = length-take-le place rows (omega arith)

  front_names : {owner slot child : ℕ} → NamesChild (take place rows) owner slot child → (owner < place) × NamesChild rows owner slot child
  front_names {owner} n =
      let less : owner < place = omega (arith, front_length, n.inside) in
      let same = get_or-take place rows owner 0 less in
      (less, record { inside = omega arith; used = rw same at n.used; here = rw same at n.here })

  names_front : {owner slot child : ℕ} → owner < place → NamesChild rows owner slot child → NamesChild (take place rows) owner slot child
  names_front {owner} less n =
      let same = get_or-take place rows owner 0 less in
      record { inside = omega (arith, front_length); used = rw same n.used; here = rw same n.here }

  -- what a slot names is taken already
  abbrev Earlier : ℕ → Type 0
  Earlier slot =
      T (one_of (children_named (take place rows)) (get_or (children_at rows place) slot 0))
      ⊎ ((other : ℕ) × (other < slot) × (get_or (children_at rows place) other 0 ≡ get_or (children_at rows place) slot 0))

  earlier_taken : (slot : ℕ) → slot < length (children_at rows place) → Earlier slot → TakenBefore rows place slot (get_or (children_at rows place) slot 0)
  earlier_taken slot used (inl h) =
      let n = (named_says (take place rows) (get_or (children_at rows place) slot 0)).0 h in
      let front = front_names n.2 in
      record { owner = n.0; other = n.1; names = front.1; before = inl front.0 }
  earlier_taken slot used (inr o) =
      record { owner = place; other = o.0; names = record { inside = inside; used = omega (arith, o.1); here = o.2 }; before = inr (refl, o.1) }

  taken_earlier : {slot child : ℕ} → NamesChild rows place slot child → TakenBefore rows place slot child → Earlier slot
  taken_earlier {slot} {child} n t =
      ⊎_elim (λ less. inl (rw n.here ((named_says (take place rows) child).1 (t.owner, t.other, names_front less t.names))))
      (λ o. inr (t.other, o.1, rw o.0 at t.names.here ∙ sym n.here)) t.before

  taken_says : T (repeats (children_named (take place rows)) (children_at rows place)) ↔ NamesTaken rows place
  taken_says =
      let says = again_says (children_named (take place rows)) (children_at rows place) in (
        λ h.
            let a = says.0 h in
            record { slot = a.0; child = get_or (children_at rows place) a.0 0; names = record { inside = inside; used = a.1; here = refl }; taken = earlier_taken a.0 a.1 a.2 },
        λ n. says.1 (n.slot, n.names.used, taken_earlier n.names n.taken),
      )

  bad_says : T (bad_row rows place (get_or rows place 0)) ↔ BadRow rows place
  unfolding bad_row
  bad_says =
      let fits = row_fits place (fields_at rows place) in
      let good = good_row place (fields_at rows place) in
      let parts = either (not fits) (repeats (children_named (take place rows)) (children_at rows place)) in (
        λ h. ⊎_elim (λ bad. inl λ g. T_not fits bad (good.1 g)) (λ again. inr (taken_says.0 again)) (parts.0 h),
        λ b. parts.1 (⊎_elim (λ bad. inl (not_T fits λ g. bad (good.0 g))) (λ again. inr (taken_says.1 again)) b),
      )

module _ (rows : List ℕ) where
  unnamed_says : (place word : ℕ) → T (unnamed rows place word) ↔ Unnamed rows place
  unfolding unnamed
  unnamed_says place word =
      let says = named_says rows place in
      (λ h owner slot n. T_not (one_of (children_named rows) place) h (says.1 (owner, slot, n)), λ u. not_T (one_of (children_named rows) place) λ h. let n = says.0 h in u n.0 n.1 n.2)

  front : List ℕ
  front = take (length rows - 1) rows

  front_long : length front ≡ length rows - 1
  unfolding front
  front_long = length-take-le (length rows - 1) rows (omega arith)

  -- the two looks: first for a bad row, then for one that nobody names
  at_row : (i : ℕ) → (lowest (bad_row rows) rows ≡ Some i) ↔ LowestWith (BadRow rows) (length rows) i
  at_row = lowest_with (bad_row rows) (BadRow rows) rows 0 (bad_says rows)

  no_row : (lowest (bad_row rows) rows ≡ None) ↔ NoneWith (BadRow rows) (length rows)
  no_row = none_with (bad_row rows) (BadRow rows) rows 0 (bad_says rows)

  at_unnamed : (i : ℕ) → (lowest (unnamed rows) front ≡ Some i) ↔ LowestWith (Unnamed rows) (length rows - 1) i
  at_unnamed i = rw front_long at (lowest_with (unnamed rows) (Unnamed rows) front 0 (λ place _. unnamed_says place (get_or front place 0)) i)

  no_unnamed : (lowest (unnamed rows) front ≡ None) ↔ NoneWith (Unnamed rows) (length rows - 1)
  no_unnamed = rw front_long at (none_with (unnamed rows) (Unnamed rows) front 0 λ place _. unnamed_says place (get_or front place 0))

  first : (i : ℕ) → lowest (bad_row rows) rows ≡ Some i → bad_pattern rows ≡ Some i
  unfolding bad_pattern
  first i e = rw e

  second : lowest (bad_row rows) rows ≡ None → bad_pattern rows ≡ lowest (unnamed rows) front
  unfolding bad_pattern front
  second e = rw e

  -- 4, exactly: the lowest row bad in itself or naming a child already taken, else the lowest row nobody names
  pub bad_pattern_at : (i : ℕ)
      → (bad_pattern rows ≡ Some i)
      ↔ (LowestWith (BadRow rows) (length rows) i ⊎ (NoneWith (BadRow rows) (length rows) × LowestWith (Unnamed rows) (length rows - 1) i))
  bad_pattern_at i = (
    λ e. into (lowest (bad_row rows) rows) refl e,
    ⊎_elim (λ low. first i ((at_row i).1 low)) (λ low. second (no_row.1 low.0) ∙ (at_unnamed i).1 low.1),
  )
    where
      into : (o : Option ℕ) → lowest (bad_row rows) rows ≡ o → bad_pattern rows ≡ Some i
          → LowestWith (BadRow rows) (length rows) i ⊎ (NoneWith (BadRow rows) (length rows) × LowestWith (Unnamed rows) (length rows - 1) i)
      into None e h = inr (no_row.0 e, (at_unnamed i).0 (sym (second e) ∙ h))
      into (Some j) e h = let same : Some j ≡ Some i = sym (first j e) ∙ h in inl ((at_row i).0 (e ∙ same))

  -- a pattern passes exactly where no row is so
  pub bad_pattern_none : (bad_pattern rows ≡ None) ↔ (NoneWith (BadRow rows) (length rows) × NoneWith (Unnamed rows) (length rows - 1))
  bad_pattern_none = (λ e. into (lowest (bad_row rows) rows) refl e, λ h. second (no_row.1 h.0) ∙ no_unnamed.1 h.1)
    where
      into : (o : Option ℕ) → lowest (bad_row rows) rows ≡ o → bad_pattern rows ≡ None → NoneWith (BadRow rows) (length rows) × NoneWith (Unnamed rows) (length rows - 1)
      into None e h = (no_row.0 e, no_unnamed.0 (sym (second e) ∙ h))
      into (Some j) e h = let clash : Some j ≡ None = sym (first j e) ∙ h in let z : ◌≡◌ {A = ℕ} 0 1 = cc in absurd (omega arith)

-- a row is a child exactly once
pub record ChildOnce (rows : List ℕ) (row : ℕ) : Type 0 where
  pub owner : ℕ
  pub slot : ℕ
  pub names : NamesChild rows owner slot row
  pub only : (other place : ℕ) → NamesChild rows other place row → (other ≡ owner) × (place ≡ slot)

-- what a pattern that passes says of its rows
module _ (rows : List ℕ) (passed : bad_pattern rows ≡ None) where
  no_bad : NoneWith (BadRow rows) (length rows)
  no_bad = ((bad_pattern_none rows).0 passed).0

  pub all_good : (place : ℕ) → place < length rows → GoodRow place (fields_at rows place)
  all_good place inside = go (row_fits place (fields_at rows place)) refl
    where
      go : (fits : Bool) → row_fits place (fields_at rows place) ≡ fits → GoodRow place (fields_at rows place)
      go true e = (good_row place (fields_at rows place)).0 (rw e tt)
      go false e = absurd (no_bad place inside (inl λ g. rw e at ((good_row place (fields_at rows place)).1 g)))

  -- no child is taken again
  pub never_again : (place : ℕ) → place < length rows → repeats (children_named (take place rows)) (children_at rows place) ≡ false
  never_again place inside = go (repeats (children_named (take place rows)) (children_at rows place)) refl
    where
      go : (again : Bool) → repeats (children_named (take place rows)) (children_at rows place) ≡ again → again ≡ false
      go true e = absurd (no_bad place inside (inr ((taken_says rows place inside).0 (rw e tt))))
      go false e = refl

  -- every row but the last is named
  pub all_named : (row : ℕ) → row < length rows - 1 → one_of (children_named rows) row ≡ true
  all_named row inside = go (one_of (children_named rows) row) refl
    where
      go : (held : Bool) → one_of (children_named rows) row ≡ held → held ≡ true
      go true e = refl
      go false e = absurd (((bad_pattern_none rows).0 passed).1 row inside λ owner slot n. rw e at ((named_says rows row).1 (owner, slot, n)))

  never_taken : {place slot child : ℕ} → NamesChild rows place slot child → TakenBefore rows place slot child → ⊥
  never_taken {place} {slot} {child} n t = no_bad place n.inside (inr (record { slot = slot; child = child; names = n; taken = t }))

  -- every row but the last is a child exactly once
  pub child_once : (row : ℕ) → row < length rows - 1 → ChildOnce rows row
  child_once row inside =
      let n = (named_says rows row).0 (rw (all_named row inside) tt) in
      record { owner = n.0; slot = n.1; names = n.2; only = λ other place m. same n.2 m }
    where
      same : {owner slot other place : ℕ} → NamesChild rows owner slot row → NamesChild rows other place row → (other ≡ owner) × (place ≡ slot)
      same {owner} {slot} {other} {place} n m =
          let a : ¬ (other < owner) = λ l. never_taken n (record { owner = other; other = place; names = m; before = inl l }) in
          let b : ¬ (owner < other) = λ l. never_taken m (record { owner = owner; other = slot; names = n; before = inl l }) in
          let e : other ≡ owner = omega arith in
          let c : ¬ (place < slot) = λ l. never_taken n (record { owner = other; other = place; names = m; before = inr (e, l) }) in
          let d : ¬ (slot < place) = λ l. never_taken m (record { owner = owner; other = slot; names = n; before = inr (sym e, l) }) in
          (e, omega arith)
