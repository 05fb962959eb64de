-- What writing a role's words leaves.
pub mod Units
pub mod Written
