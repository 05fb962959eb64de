-- What the proofs of several functions use.
pub mod JoinLaws
pub mod KeyLaws
pub mod LeafLaws
pub mod ChildLaws
pub mod PartLaws
pub mod FoundLaws
