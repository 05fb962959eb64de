-- Each way out is a case of `locate`.
use native.Mathlib.Omega.{arith}
use Rattle.terms.proofs.FinderLaws.{find_below, find-ways}
use borrow.Author.Rules.{rules}
use Rattle.finder.proofs.find.Goals as goal

pub overflow_cast-result : goal.overflow_cast-result
overflow_cast-result c =
    let place = c.equal_row-place in
    omega (arith, find_below _ _ _ _ place.ensures (search rules) _ c.in-Some.is)

pub returns-in-Some : goal.returns-in-Some
returns-in-Some c = search find-ways

pub returns-then-unused-rows : goal.returns-then-unused-rows
returns-then-unused-rows c = search find-ways

pub returns-else-unused-rows : goal.returns-else-unused-rows
returns-else-unused-rows c = search find-ways
