-- Laws of a match that walks the pattern.
pub mod LeafLaws
pub mod WalkLaws
