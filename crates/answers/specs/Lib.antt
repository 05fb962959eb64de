-- "Numbers that come back", and the order of checks.
pub mod Numbers
pub mod RoundNumbers
pub mod DirectNumbers
pub mod First
