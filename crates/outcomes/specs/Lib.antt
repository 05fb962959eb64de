-- What a bundle gives, as the code holds it.
pub mod Held
