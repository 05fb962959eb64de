-- What the compiler knows while it emits, and when that is what the tables say.
pub mod Known
pub mod Steps
pub mod Meets
pub mod Findings
