-- What counting a role's words answers.
pub mod Counted
pub mod RowUnits
