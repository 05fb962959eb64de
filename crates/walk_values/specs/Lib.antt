-- The rules for a value that is made.
pub mod Values
