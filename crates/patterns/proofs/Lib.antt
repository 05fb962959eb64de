-- Laws of pattern rows.
pub mod ArmLaws
pub mod PatternLaws
pub mod RowLaws
pub mod SlotLaws
pub mod MarkLaws
pub mod CheckLaws
pub mod FormLaws
pub mod KindLaws
pub mod GoodRow
pub mod RuleLaws
pub mod RightRow
pub mod SumLaws
pub mod TreeLaws
pub mod EveryLaws
pub mod PassLaws
pub mod StandingLaws
