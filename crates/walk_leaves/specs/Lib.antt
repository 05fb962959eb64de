-- Figure 3 by the walk.
pub mod Creation
