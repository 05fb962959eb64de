-- The invariant: none of the rows passed repeats an earlier one, and each is on its chain.
use mathlib.Core.Path.{refl, sym, ◌∙◌}
use native.Mathlib.Omega.{arith}
use lib.ListN.{length-set}
use Rattle.chains.proofs.DistinctLaws.{distinct_stop, distinct_next, distinct_end}
use Rattle.chains.proofs.ChainLaws.{chain_below, headed_next, linked_next}
use Rattle.chains.proofs.distinct_by_chains.Goals as goal

pub loop-row-init : goal.loop-row-init
loop-row-init c =
    (sym c.no_rows-newest.ensures, sym c.no_rows-older.ensures, refl, λ chain row l. absurd (omega arith), λ row l. absurd (omega arith))

pub offset_bounds-newest-chain : goal.offset_bounds-newest-chain
offset_bounds-newest-chain c = omega (arith, (chain_below _ c.chain_of-chain.result c.chain_of-chain.ensures))

pub bounds-newest-chain : goal.bounds-newest-chain
bounds-newest-chain c = chain_below _ c.chain_of-chain.result c.chain_of-chain.ensures

pub slice_bounds-on_chain-end : goal.slice_bounds-on_chain-end
slice_bounds-on_chain-end c = sym c.loop-row.invariant.1

pub on_chain-requires : goal.on_chain-requires
on_chain-requires c =
    let l = c.loop-row in record { row_in_bounds = (omega arith, omega arith); newest = (rw c.chain_of-chain.ensures (l.invariant.3 _), l.invariant.4) }

pub returns-then-on_chain : goal.returns-then-on_chain
returns-then-on_chain c =
    let a = c.args in
    let l = c.loop-row in
    distinct_stop a.rows.now a.used (omega arith) l.row l.invariant.2 _ (omega arith) c.on_chain.ensures c.if-on_chain.true

pub offset_bounds-newest-chain-in-loop-row : goal.offset_bounds-newest-chain-in-loop-row
offset_bounds-newest-chain-in-loop-row c = omega (arith, (chain_below _ c.chain_of-chain.result c.chain_of-chain.ensures))

pub bounds-newest-chain-in-loop-row : goal.bounds-newest-chain-in-loop-row
bounds-newest-chain-in-loop-row c = chain_below _ c.chain_of-chain.result c.chain_of-chain.ensures

pub loop-row-preserved : goal.loop-row-preserved
loop-row-preserved c =
    let a = c.args in
    let l = c.loop-row in
    let chain = c.chain_of-chain in (
      length-set l.newest _ _ ∙ l.invariant.0,
      length-set l.older _ _ ∙ l.invariant.1,
      distinct_next a.rows.now a.used (omega arith) l.row l.invariant.2 _ (omega arith) c.on_chain.ensures c.if-on_chain.false,
      headed_next a.rows.now l.newest l.older l.row chain.result chain.ensures l.invariant.3 (omega (arith, (chain_below _ c.chain_of-chain.result c.chain_of-chain.ensures))),
      linked_next a.rows.now l.newest l.older l.row chain.result chain.ensures l.invariant.3 (omega arith) l.invariant.4,
    )

pub returns : goal.returns
returns c =
    let a = c.args in
    let l = c.loop-row in
    distinct_end a.rows.now a.used (omega arith) l.row l.invariant.2 (omega arith)
