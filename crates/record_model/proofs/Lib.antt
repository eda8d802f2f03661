pub mod Prefixes
pub mod TablePrefixes
pub mod MovePrefixes
pub mod OneRecord
pub mod Entries
pub mod SampleNames
