-- Laws of a role's lengths, and of its halves counted in turn.
pub mod LengthLaws
pub mod CountLaws
pub mod RowLaws
