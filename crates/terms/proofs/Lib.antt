-- Laws of term rows, of the term table and of the finder.
pub mod FieldLaws
pub mod ShapeLaws
pub mod RowLaws
pub mod TableLaws
pub mod FinderLaws
