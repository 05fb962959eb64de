-- Laws of the dispatcher.
pub mod OperandLaws
