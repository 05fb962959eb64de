-- Laws of a match, a stage and a form at a time.
pub mod StageLaws
pub mod RuleLaws
pub mod KeyLaws
pub mod FormLaws
