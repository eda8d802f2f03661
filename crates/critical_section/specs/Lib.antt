pub mod Waiting
pub mod Sections
