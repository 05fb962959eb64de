-- What is said of an agent.
pub mod Answer
