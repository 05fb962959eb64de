-- What creating promises of a row.
pub mod Creates
