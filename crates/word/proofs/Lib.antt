-- Laws of words in memory, of packed fields, and of tests over lists.
pub mod ByteLaws
pub mod FieldLaws
pub mod All
pub mod TestLaws
pub mod LowestLaws
pub mod ScanLaws
pub mod OneOfLaws
pub mod ArmLaws
pub mod CopyLaws
