-- What the proofs of several functions use.
pub mod KeyLaws
pub mod FormLaws
pub mod LeafLaws
pub mod ChildLaws
pub mod PartLaws
