pub mod Journals
pub mod Records
pub mod Starts
