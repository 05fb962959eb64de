-- What a round finds before it steps, and what its steps leave.
pub mod Found
pub mod Played
