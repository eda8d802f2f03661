pub mod ApplyFaults
pub mod Ops
pub mod Reads
pub mod Starts
pub mod Steps
pub mod View
