-- The entries for C.
pub mod Entries
pub mod RoundEntry
