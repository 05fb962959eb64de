-- What matching promises of a row.
pub mod Matches
