-- Steps over the lent slices.
pub mod Steps
