-- Laws of lines that are read and printed again.
pub mod AgainLaws
pub mod RereadingLaws
