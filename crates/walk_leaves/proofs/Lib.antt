-- Laws of the forms with no part.
pub mod FormLaws
pub mod LeafLaws
