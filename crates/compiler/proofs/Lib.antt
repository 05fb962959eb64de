-- Laws of compile.
pub mod LookLaws
pub mod RowLaws
pub mod WalkLaws
pub mod OverCells
