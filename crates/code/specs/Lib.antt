-- Code: instructions and their words.
pub mod Instruction
pub mod Words
pub mod GoodWords
