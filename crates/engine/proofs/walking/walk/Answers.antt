-- The walk starts at the root, from what is lent.
use Prim.Native.Nat.{ℕ, ◌-◌}
use mathlib.Core.Path.{◌≡◌, ◌∙◌, ap}
use mathlib.Core.List.{List}
use native.Mathlib.Omega.{arith}
use lib.ListN.{length}
use borrow.Author.Rules.{rules}
use Rattle.word.proofs.CopyLaws.{laid}
use Rattle.patterns.specs.Standing.{pattern_in}
use Rattle.patterns.specs.Tree.{pattern_of}
use Rattle.layout.proofs.RowLaws.{root_pattern, root_stands}
use Rattle.engine.proofs.WalkLaws.{walkable_given, within, walk_span, walk_done, walk_ended}
use Rattle.engine.proofs.walking.walk.Goals as goal

pub lay_rows-requires : goal.lay_rows-requires
lay_rows-requires c = (walkable_given c.requires).most

pub overflow_sub-root : goal.overflow_sub-root
overflow_sub-root c = (walkable_given c.requires).least

pub overflow_cast-root : goal.overflow_cast-root
overflow_cast-root c = omega (arith, (walkable_given c.requires).most)

pub overflow_cast-start : goal.overflow_cast-start
overflow_cast-start c = omega (arith, (walkable_given c.requires).small)

pub walk_row-requires : goal.walk_row-requires
walk_row-requires c =
    let pattern : List ℕ = c.args.pattern.now in
    let g = walkable_given c.requires in
    let stands = root_stands pattern g.least g.most g.rows_good in
    let rows = laid pattern 96 0 c.no_rows-rows.ensures c.lay_rows.ensures in record { stands = rw rows stands; within = within c.requires }

pub clear-requires : goal.clear-requires
clear-requires c =
    let pattern : List ℕ = c.args.pattern.now in
    let same : pattern_in c.lay_rows.new.rows (length pattern - 1) ≡ pattern_of pattern = let g = walkable_given c.requires in
    ap (λ rows. pattern_in rows (length pattern - 1))
    (laid pattern 96 0 c.no_rows-rows.ensures c.lay_rows.ensures)
    ∙ root_pattern pattern g.least g.most in
    let span = walk_span c.requires same c.walk_row.ensures in
    (search (rules, arith, span), search (rules, arith, span))

pub returns : goal.returns
returns c =
    let pattern : List ℕ = c.args.pattern.now in
    let same : pattern_in c.lay_rows.new.rows (length pattern - 1) ≡ pattern_of pattern = let g = walkable_given c.requires in
    ap (λ rows. pattern_in rows (length pattern - 1))
    (laid pattern 96 0 c.no_rows-rows.ensures c.lay_rows.ensures)
    ∙ root_pattern pattern g.least g.most in
    rw c.handed_back.ensures (walk_done c.requires same c.walk_row.ensures c.in-Ok.is)

pub returns-in-Err : goal.returns-in-Err
returns-in-Err c =
    let pattern : List ℕ = c.args.pattern.now in
    let same : pattern_in c.lay_rows.new.rows (length pattern - 1) ≡ pattern_of pattern = let g = walkable_given c.requires in
    ap (λ rows. pattern_in rows (length pattern - 1))
    (laid pattern 96 0 c.no_rows-rows.ensures c.lay_rows.ensures)
    ∙ root_pattern pattern g.least g.most in
    rw c.ended_as.ensures (walk_ended c.requires same c.walk_row.ensures c.in-Err.is (search rules))
