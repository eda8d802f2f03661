pub mod Changes
pub mod Fills
pub mod Nexts
pub mod Unmarks
