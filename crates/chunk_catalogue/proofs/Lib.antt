pub mod Names
pub mod Known
pub mod Lists
pub mod Placed
pub mod Answered
pub mod Rooms
pub mod Next
