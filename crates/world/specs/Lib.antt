-- The operations on terms, over the rows of a table.
pub mod Operations
