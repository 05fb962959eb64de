-- The room that a pattern asks, and the parts of a tuple.
pub mod Budget
pub mod Parts
