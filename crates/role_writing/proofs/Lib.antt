-- Laws of a role's halves written in turn.
pub mod RoundLaws
pub mod UnitLaws
pub mod WriteLaws
