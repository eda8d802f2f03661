mod Counts
pub mod TakenBodies
