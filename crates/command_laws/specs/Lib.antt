pub mod SampleCommands
pub mod SampleRequests
pub mod SampleNumbers
pub mod SampleReads
pub mod SampleAdmin
