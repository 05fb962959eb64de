-- What compile, run, a round and a role answer, and the worked cases.
pub mod Compile
pub mod Half
pub mod Looks
pub mod Run
pub mod Valid
pub mod Frame
pub mod Round
pub mod Role
pub mod Direct
pub mod CompileThenRun
pub mod Cases
pub mod Orders
