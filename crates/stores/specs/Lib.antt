-- What a terminal holds: kinds, cells, certificates, accumulator.
pub mod Cells
pub mod Certificates
pub mod Valid
pub mod GoodStores
