pub mod Tree
pub mod Spelling
pub mod Limits
pub mod Grammar
pub mod Faults
pub mod SampleDocuments
