pub mod Calls
pub mod Plans
