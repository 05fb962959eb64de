-- Laws of laid rows and of kinds.
pub mod KindLaws
pub mod RowLaws
