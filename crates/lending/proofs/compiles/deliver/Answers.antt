use mathlib.Core.Path.{sym}
use borrow.Author.Rules.{rules}
use lib.Seq.{length-take-le}
use Rattle.lending.proofs.CompileLaws.{bytes_short, bytes_fit_lem}
use Rattle.lending.proofs.compiles.deliver.Goals as goal

pub returns-then-code-count : goal.returns-then-code-count
returns-then-code-count c =
    let a = c.args in
    rw c.numbers.ensures (bytes_short a.words.now a.code.now c.requires.1
    (λ place. (c.type_inv.code place).fits) c.if-code-count.true)

pub slice_bounds-pack_quads-end-2 : goal.slice_bounds-pack_quads-end-2
slice_bounds-pack_quads-end-2 c = sym (length-take-le _ _ (search rules))

pub pack_quads-requires : goal.pack_quads-requires
pack_quads-requires c = length-take-le _ _ (search rules)

pub returns : goal.returns
returns c =
    rw c.numbers-2.ensures (
    bytes_fit_lem c.args.words.now c.args.code.now c.requires.1 (λ place. (c.slice_known-1.given place).fits)
    c.if-code-count.false (rw c.pack_quads.ensures)
    )
