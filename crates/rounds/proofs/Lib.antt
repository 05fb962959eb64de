-- Laws of a round.
pub mod PlaceLaws
pub mod PlayLaws
pub mod NewRowLaws
