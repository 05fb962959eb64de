-- Laws of the steps of a run.
pub mod ClearLaws
pub mod CellLaws
pub mod WordLaws
pub mod GoingLaws
