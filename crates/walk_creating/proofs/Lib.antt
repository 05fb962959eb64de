-- Laws of the forms with parts.
pub mod ChildLaws
pub mod PartLaws
