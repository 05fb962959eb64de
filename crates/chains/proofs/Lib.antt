-- Laws of distinct rows and of chains.
pub mod DistinctLaws
pub mod ChainLaws
