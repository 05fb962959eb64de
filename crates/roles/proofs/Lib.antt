-- Laws of a role's answer.
pub mod AnswerLaws
