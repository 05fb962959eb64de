-- What a match of a pattern does, on the slices that are lent.
pub mod Stages
pub mod Matched
