-- Figure 1: patterns, from rows to the tree.
pub mod Pattern
pub mod Forms
pub mod Row
pub mod Rules
pub mod GoodRow
pub mod Tree
pub mod Kinds
pub mod Marks
pub mod RowKinds
pub mod RightRow
pub mod Laid
pub mod Standing
