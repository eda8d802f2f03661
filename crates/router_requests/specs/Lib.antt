pub mod Code
pub mod Works
pub mod Askers
pub mod Lists
pub mod Order
pub mod Fates
pub mod Nexts
pub mod Turns
