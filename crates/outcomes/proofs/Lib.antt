-- Laws of a bundle's parts, of what it gives, and of what is printed of it.
pub mod PartLaws
pub mod GivenLaws
pub mod Listed
