-- Laws of a turn.
pub mod WordLaws
pub mod CheckLaws
pub mod FrontLaws
