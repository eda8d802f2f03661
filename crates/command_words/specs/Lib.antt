pub mod Commands
pub mod Drafts
pub mod FindWords
pub mod Held
pub mod HeldRules
pub mod Middles
pub mod Rows
pub mod WriteNames
