-- Laws of the rules of a row.
pub mod RuleLaws
