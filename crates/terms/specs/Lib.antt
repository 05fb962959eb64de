-- What a message is.
pub mod Shape
pub mod Row
pub mod Rules
pub mod Table
pub mod Finder
