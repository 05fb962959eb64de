-- Laws of the operations on terms.
pub mod KeyLaws
pub mod LookLaws
pub mod MakingLaws
pub mod OpeningLaws
pub mod TestingLaws
