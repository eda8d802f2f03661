pub mod Code
pub mod GroupParts
pub mod PartReading
pub mod Rows
pub mod ShowResults
pub mod Sizes
pub mod View
