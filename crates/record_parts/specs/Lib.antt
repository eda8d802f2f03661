pub mod Readers
pub mod Finds
