-- Laws of text that is written.
pub mod DigitLaws
pub mod WrittenLaws
pub mod LineLaws
pub mod ReadLaws
pub mod ReadLineLaws
pub mod ReadStepLaws
