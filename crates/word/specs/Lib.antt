-- How numbers lie in memory.
pub mod Fields
pub mod Bytes
pub mod All
pub mod Lowest
