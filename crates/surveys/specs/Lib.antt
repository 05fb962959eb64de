-- What is promised of looks over a pattern.
pub mod Surveys
