pub mod Files
pub mod Views
pub mod Scan
pub mod LoadFaults
pub mod Openings
