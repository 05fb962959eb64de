-- Code lines read back.
pub mod ReadBackNumbers
pub mod Reading
pub mod LineAnswers
pub mod GoodLines
