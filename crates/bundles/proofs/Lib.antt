-- Laws of bundles.
pub mod OpeningLaws
pub mod WordLaws
pub mod CellLaws
pub mod KindLaws
pub mod BundleLaws
pub mod FillLaws
pub mod ClearLaws
pub mod ReadLaws
