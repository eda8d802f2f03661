pub mod Merged
pub mod Extended
pub mod SampleJournals
