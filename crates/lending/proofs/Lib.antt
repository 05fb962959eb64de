-- Laws of what C lends.
pub mod FrontLaws
pub mod ChoiceLaws
pub mod SplitLaws
pub mod TableLaws
pub mod CompileLaws
pub mod SliceLaws
pub mod RunLaws
pub mod RoundLaws
