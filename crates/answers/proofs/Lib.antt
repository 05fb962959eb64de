-- The laws of the numbers that come back.
pub mod NumberLaws
