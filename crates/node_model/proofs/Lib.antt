pub mod Journals
pub mod Schedules
pub mod TurnSamples
