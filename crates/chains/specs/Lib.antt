-- Rows that differ from every row before them, and the chains on which an equal one is met.
pub mod Distinct
pub mod Chains
