-- The rounds so far stand in front of the slice, and their ends in front of the other.
use Prim.Native.Nat.{◌+◌}
use mathlib.Core.Path.{refl}
use native.Mathlib.Omega.{arith}
use Rattle.role_counting.proofs.CountLaws.{part_of}
use Rattle.role_writing.proofs.WriteLaws.{all_compiled, writing_none, ahead, round_fits, end_fits, end_small, writing_more, writing_all}
use Rattle.role_writing.proofs.write_rounds.Goals as goal

pub loop-round-init : goal.loop-round-init
loop-round-init g c = writing_none g.met.E.WordUnit.packs g.met.C.WordUnit.packs _ _ _ _ _ _ c.requires.counts_len.3 refl

pub overflow_add-middle : goal.overflow_add-middle
overflow_add-middle g c =
    let all = all_compiled _ _ c.requires.rounds_fit in
    let lens = c.requires.counts_len in
    let next = (ahead g.met.E.WordUnit.packs g.met.C.WordUnit.packs _ _ _ _ _ _ all.all all.fits lens.0 lens.2 c.loop-round.invariant c.loop-round-test.true).next in
    omega (arith, next.rows_left, g.met.R.RowUnit.fewer c.args.rows.now, c.well_formed.0.1)

pub overflow_add-end-in-loop-round : goal.overflow_add-end-in-loop-round
overflow_add-end-in-loop-round g c =
    let all = all_compiled _ _ c.requires.rounds_fit in
    let lens = c.requires.counts_len in
    let next = (ahead g.met.E.WordUnit.packs g.met.C.WordUnit.packs _ _ _ _ _ _ all.all all.fits lens.0 lens.2 c.loop-round.invariant c.loop-round-test.true).next in
    omega (arith, next.rows_left, g.met.R.RowUnit.fewer c.args.rows.now, c.well_formed.0.1)

pub write_round-left-requires-clause-parts : goal.write_round-left-requires-clause-parts
write_round-left-requires-clause-parts g c =
    let all = all_compiled _ _ c.requires.rounds_fit in
    let lens = c.requires.counts_len in
    let next = (ahead g.met.E.WordUnit.packs g.met.C.WordUnit.packs _ _ _ _ _ _ all.all all.fits lens.0 lens.2 c.loop-round.invariant c.loop-round-test.true).next in
    (omega arith, omega arith, omega (arith, next.rows_left))

pub write_round-left-requires-clause-fits : goal.write_round-left-requires-clause-fits
write_round-left-requires-clause-fits g c =
    let all = all_compiled _ _ c.requires.rounds_fit in
    let lens = c.requires.counts_len in
    let loop = c.loop-round in
    rw (part_of loop.row _ _, part_of (loop.row + _) _ _)
    (round_fits g.met.E.WordUnit.packs g.met.C.WordUnit.packs _ _ _ _ _ _ all.all all.fits lens.0 lens.2 loop.invariant c.loop-round-test.true)

pub overflow_cast-words : goal.overflow_cast-words
overflow_cast-words g c =
    let all = all_compiled _ _ c.requires.rounds_fit in
    let lens = c.requires.counts_len in
    let loop = c.loop-round in
    let wrote = rw (part_of loop.row _ _, part_of (loop.row + _) _ _) at c.write_round-left.ensures in
    let small = end_small g.met.E.WordUnit.packs g.met.C.WordUnit.packs _ _ _ _ _ _ all.all all.fits lens.0 lens.2 loop.invariant c.loop-round-test.true wrote in
    omega (arith, small, c.loop-round-test.true, lens.1)

pub put-requires : goal.put-requires
put-requires g c =
    let all = all_compiled _ _ c.requires.rounds_fit in
    let lens = c.requires.counts_len in
    end_fits g.met.E.WordUnit.packs g.met.C.WordUnit.packs _ _ _ _ _ _ all.all all.fits lens.0 lens.2 c.loop-round.invariant c.loop-round-test.true

pub loop-round-preserved : goal.loop-round-preserved
loop-round-preserved g c =
    let all = all_compiled _ _ c.requires.rounds_fit in
    let lens = c.requires.counts_len in
    let loop = c.loop-round in
    let wrote = rw (part_of loop.row _ _, part_of (loop.row + _) _ _) at c.write_round-left.ensures in
    writing_more g.met.E.WordUnit.packs g.met.C.WordUnit.packs _ _ _ _ _ _ all.all all.fits lens.0 lens.2 loop.invariant c.loop-round-test.true wrote c.put.ensures

pub returns-clause-ends_after : goal.returns-clause-ends_after
returns-clause-ends_after g c =
    let all = all_compiled _ _ c.requires.rounds_fit in
    let lens = c.requires.counts_len in
    (writing_all g.met.E.WordUnit.packs g.met.C.WordUnit.packs _ _ _ _ _ _ all.all all.fits lens.0 lens.2 c.loop-round.invariant c.loop-round-test.false).0

pub returns-clause-code_after : goal.returns-clause-code_after
returns-clause-code_after g c =
    let all = all_compiled _ _ c.requires.rounds_fit in
    let lens = c.requires.counts_len in
    (writing_all g.met.E.WordUnit.packs g.met.C.WordUnit.packs _ _ _ _ _ _ all.all all.fits lens.0 lens.2 c.loop-round.invariant c.loop-round-test.false).1
