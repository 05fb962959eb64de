-- Laws of rows looked at eight at a time.
pub mod BlockLaws
