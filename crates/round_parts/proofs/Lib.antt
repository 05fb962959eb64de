-- Laws of a round's part of the code.
pub mod PartLaws
