-- Reading code lines back, for C.
pub mod ReadEntry
