-- What the engine finds before it walks, and its walk.
pub mod Found
pub mod Walking
