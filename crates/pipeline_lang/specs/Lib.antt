pub mod Code
pub mod Halves
pub mod View
