-- What the program `reading` prints.
pub mod Rereading
