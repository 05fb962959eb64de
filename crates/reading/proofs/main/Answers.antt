use Rattle.std.proofs.Common.{arith, sym, length-take-le}
use Rattle.reading.proofs.RereadingLaws.{inside}
use Rattle.reading.proofs.main.Goals as goal

pub slice_bounds-printed-end : goal.slice_bounds-printed-end
slice_bounds-printed-end c = inside _ c.reread-end.ensures (omega (arith, c.large_buffer-printed.ensures))

pub slice_bounds-write_all-end : goal.slice_bounds-write_all-end
slice_bounds-write_all-end c = sym (length-take-le _ _ (inside _ c.reread-end.ensures (omega (arith, c.large_buffer-printed.ensures))))
