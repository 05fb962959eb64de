-- The product: its functions, and all that is promised of them.
pub mod Functions
pub mod RoleFunctions
pub mod ReadFunctions
pub mod Product
