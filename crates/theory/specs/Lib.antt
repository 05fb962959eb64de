-- The paper: figures 2 to 6 over a world.
pub mod Outcome
pub mod Store
pub mod World
pub mod Model
pub mod RowModel
pub mod TermModel
pub mod Meaning
pub mod Machine
pub mod Uses
pub mod Emission
pub mod Bounds
pub mod Compilers
pub mod Rules
pub mod Figure2
pub mod Figure3
