pub mod Known
pub mod Code
pub mod Puts
pub mod Names
