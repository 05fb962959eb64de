-- Compile from which cells are set, and what its walk answers.
pub mod CompileKnown
pub mod Buffer
