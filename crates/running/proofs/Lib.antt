-- Laws of a run.
pub mod ReadyLaws
pub mod EndLaws
