-- Bundles taken apart.
pub mod Bundle
pub mod Given
pub mod Opening
