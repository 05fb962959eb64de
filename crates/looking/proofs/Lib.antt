-- Laws of what run looks at.
pub mod LookLaws
pub mod FrontLaws
pub mod NewRowLaws
