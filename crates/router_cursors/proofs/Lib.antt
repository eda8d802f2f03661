pub mod Opened
pub mod Looks
pub mod Closed
pub mod Batches
pub mod Rooms
