pub mod State
pub mod Plans
pub mod Writes
pub mod Progress
