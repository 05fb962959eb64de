-- Laws of the listing.
pub mod LinesLaws
pub mod Coincide
