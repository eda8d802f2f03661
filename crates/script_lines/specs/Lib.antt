pub mod Words
pub mod Kinds
pub mod Lines
pub mod Meanings
pub mod Output
