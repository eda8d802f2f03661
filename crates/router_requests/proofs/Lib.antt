mod Places
mod Found
mod Rooms
mod Waits
pub mod ByTables
pub mod Alike
mod Reading
mod Written
mod Told
mod Turns
mod Staying
mod GivenUp
