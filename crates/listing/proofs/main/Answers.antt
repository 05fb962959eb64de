use Rattle.std.proofs.Common.{arith, sym, length-take-le}
use Rattle.outcomes.proofs.Listed.{inside}
use Rattle.listing.proofs.main.Goals as goal

pub slice_bounds-printed-end : goal.slice_bounds-printed-end
slice_bounds-printed-end c = inside _ c.list-end.ensures (omega (arith, c.large_buffer-printed.ensures))

pub slice_bounds-write_all-end : goal.slice_bounds-write_all-end
slice_bounds-write_all-end c = sym (length-take-le _ _ (inside _ c.list-end.ensures (omega (arith, c.large_buffer-printed.ensures))))
