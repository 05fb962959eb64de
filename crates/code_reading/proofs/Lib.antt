-- Laws of code lines that are read back.
pub mod GoodLineLaws
pub mod WordStepLaws
pub mod LinesLaws
pub mod DeliverLaws
pub mod ReadTableLaws
