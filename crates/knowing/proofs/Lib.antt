-- What the proofs of several functions use.
pub mod KnownLaws
pub mod CellLaws
pub mod MeetsLaws
pub mod StepLaws
pub mod FindingLaws
