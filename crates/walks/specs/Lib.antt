-- The rules of figures 2 and 3 over the lent slices.
pub mod Walks
