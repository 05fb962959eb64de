-- Laws of an outcome's lines.
pub mod NumberedLaws
pub mod LineLaws
pub mod RanLaws
