-- Laws of the machine over the lent slices.
pub mod FoundLaws
pub mod StateLaws
pub mod SetLaws
pub mod AskLaws
pub mod AgreeLaws
pub mod MovingLaws
pub mod MakingLaws
pub mod OpeningLaws
pub mod TupleLaws
