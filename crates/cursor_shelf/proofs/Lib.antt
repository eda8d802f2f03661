pub mod Longest
pub mod Shelved
