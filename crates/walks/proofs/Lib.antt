-- Laws of the walk.
pub mod ComesLaws
pub mod AskedLaws
pub mod StoreLaws
pub mod MakingLaws
pub mod KeyLaws
