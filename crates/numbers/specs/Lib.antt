-- The sorts of numbers, the kinds of variables, and the limits.
pub mod Sorts
pub mod Kinds
pub mod Limits
