pub mod Faults
pub mod Parts
pub mod ReadFaults
pub mod References
