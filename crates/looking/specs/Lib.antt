-- What run finds before it steps.
pub mod Found
pub mod Front
