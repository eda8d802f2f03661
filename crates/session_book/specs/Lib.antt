pub mod Statements
pub mod Code
pub mod Places
pub mod Records
pub mod Books
pub mod Merges
