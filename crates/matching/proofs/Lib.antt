-- What the proofs of several functions use.
pub mod FormLaws
pub mod LeafLaws
pub mod WalkLaws
