-- What the proofs of several functions use.
pub mod FoundLaws
pub mod WalkLaws
pub mod DirectLaws
