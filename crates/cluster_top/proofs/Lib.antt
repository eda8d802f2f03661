pub mod Asked
pub mod Openers
pub mod Refused
pub mod SomeWorld
