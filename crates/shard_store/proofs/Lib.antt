mod Again
pub mod Effects
pub mod Faults
pub mod Facts
pub mod Following
pub mod Lists
pub mod Named
pub mod Planning
pub mod Pushed
pub mod Seen
pub mod SpanDocuments
