-- What the proofs of several functions use.
pub mod InstructionLaws
pub mod BudgetLaws
pub mod PartLaws
