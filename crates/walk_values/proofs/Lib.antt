-- Laws of values that are made.
pub mod ThenLaws
pub mod ValueLaws
pub mod KeyLaws
