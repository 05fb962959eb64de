-- Each claim, proved.
pub mod Functions
pub mod RoleFunctions
pub mod ReadFunctions
pub mod Product
