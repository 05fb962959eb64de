-- The laws of instructions and their words.
pub mod KindLaws
pub mod ReadLaws
pub mod WordLaws
