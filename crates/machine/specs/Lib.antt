-- Figure 4 over the lent slices.
pub mod Machine
