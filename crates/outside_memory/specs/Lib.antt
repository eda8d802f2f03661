pub mod FaultPlan
pub mod CallList
pub mod Memory
pub mod Calls
pub mod Clocks
pub mod Moments
