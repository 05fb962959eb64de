-- Lines of decimal numbers, as bytes.
pub mod Lines
pub mod Written
pub mod Readers
pub mod ReadAnswers
