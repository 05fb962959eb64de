-- How the check of a pattern goes through its rows.
use Prim.Native.Nat.{ℕ, suc, ◌+◌, ◌-◌, ◌<◌, ◌≤◌}
use mathlib.Core.Path.{◌≡◌, refl, ap, ◌∙◌}
use mathlib.Core.Bool.{Bool, true, false, not, ◌||◌}
use Rattle.std.specs.Prelude.{None, Some}
use mathlib.Core.List.{List, [], ◌∷◌, ◌++◌, append-nil, append_assoc, flat_map}
use native.Mathlib.Numerals.{add-one}
use native.Mathlib.Omega.{arith}
use lib.ListN.{length, get_or, take, replicate}
use lib.Seq.{take-suc, take_all, get_or-take, length-take-le}
use Rattle.word.specs.Lowest.{lowest}
use Rattle.word.proofs.All.{All, at_all}
use Rattle.word.proofs.ScanLaws.{Left, scan_hit, scan_miss, scan_end, lowest_same}
use Rattle.patterns.specs.Row.{pattern_fields, children_of}
use Rattle.patterns.specs.Rules.{row_fits, children_named, bad_row, unnamed, bad_pattern}
use Rattle.patterns.specs.Marks.{Taken, taking, take_every, Marked}
use Rattle.patterns.proofs.RowLaws.{slot_below, child_slot}
use Rattle.patterns.proofs.MarkLaws.{marked_none, marked_all, again_all}

children_below : (word : ℕ) → All (λ child. child < 128) (children_of word)
children_below word = at_all _ (children_of word) 0 λ slot inside. rw (child_slot word slot inside) (slot_below word slot)

pub named_append : (front back : List ℕ) → children_named (front ++ back) ≡ children_named front ++ children_named back
unfolding flat_map
named_append [] back = refl
named_append (word ∷ front) back = rw (named_append front back, append_assoc)

pub named_one : (word : ℕ) → children_named (word ∷ []) ≡ children_of word
unfolding flat_map
named_one word = append-nil (children_of word)

-- what is named by one row more
pub named_more : (rows : List ℕ) (place : ℕ) → place < length rows → children_named (take (suc place) rows) ≡ children_named (take place rows) ++ children_of (get_or rows place 0)
named_more rows place inside = rw (take-suc rows place 0, named_append, named_one)

-- the rows before a place are good, and their children marked
pub record Good (rows : List ℕ) (marks : List Bool) (place : ℕ) : Type 0 where
  pub marked : Marked marks (children_named (take place rows))
  pub left : Left (bad_row rows) rows place

pub good_none : (rows : List ℕ) → Good rows (replicate 128 false) 0
unfolding flat_map
good_none rows = record { marked = marked_none; left = refl }

module _ (rows : List ℕ) (marks : List Bool) (place : ℕ) (good : Good rows marks place) where
  -- the root is the last row, and nobody has to name it
  module _ (past : length rows ≤ place) where
    bad_none : lowest (bad_row rows) rows ≡ None
    bad_none = scan_end (bad_row rows) rows 0 place good.left past

    all_marked : Marked marks (children_named rows)
    all_marked = rw (take_all place rows past) at good.marked

    pub good_end : length rows ≤ 96 → bad_pattern rows ≡ lowest (λ row mark. not mark) (take (length rows - 1) marks)
    unfolding bad_pattern unnamed
    good_end few =
        let long : length marks ≡ 128 = all_marked.long in
        let front : length (take (length rows - 1) rows) ≡ length rows - 1 = length-take-le (length rows - 1) rows (omega arith) in
        let back : length (take (length rows - 1) marks) ≡ length rows - 1 = length-take-le (length rows - 1) marks (omega arith) in
        rw bad_none
        (lowest_same _ _ (take (length rows - 1) rows) (take (length rows - 1) marks) 0 false (omega arith) λ row inside.
        rw (get_or-take (length rows - 1) marks row false (omega arith), all_marked.each row (omega arith)))

  -- the row at a place, whether it is good in itself, the marks after it, and whether a child was taken again
  module _ (word : ℕ) (fits : Bool) (next : List Bool) (again : Bool) (inside : place < length rows) (here : get_or rows place 0 ≡ word)
      (own : fits ≡ row_fits place (pattern_fields word)) (takes : taking next again ≡ take_every (taking marks false) (children_of word)) where
    bad_here : bad_row rows place word ≡ (not fits || again)
    unfolding bad_row
    bad_here = rw (own, ap (λ (t : Taken). t.again) takes, again_all (taking marks false) (children_named (take place rows)) (children_of word) good.marked (children_below word))

    pub good_stop : (not fits || again) ≡ true → bad_pattern rows ≡ Some place
    unfolding bad_pattern
    good_stop bad = rw (scan_hit (bad_row rows) rows 0 place good.left inside (rw here (bad_here ∙ bad)))

    pub good_next : (not fits || again) ≡ false → Good rows next (place + 1)
    good_next fine =
        record {
          marked = rw (add-one, named_more rows place inside, here, ap (λ (t : Taken). t.marks) takes)
              (marked_all (taking marks false) (children_named (take place rows)) (children_of word) good.marked (children_below word));
          left = scan_miss (bad_row rows) rows 0 place good.left inside (rw here (bad_here ∙ fine));
        }
