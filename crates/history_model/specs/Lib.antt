pub mod History
pub mod Documents
pub mod Versions
pub mod Notes
pub mod Sessions
pub mod Merges
pub mod SampleEntries
