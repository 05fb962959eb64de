-- Laws of a role's bytes, and of its answer in numbers.
pub mod BytesLaws
pub mod EntryLaws
