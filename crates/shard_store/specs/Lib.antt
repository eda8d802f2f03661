pub mod Faults
pub mod Outcomes
pub mod Collections
pub mod Entries
pub mod Effects
pub mod Codes
pub mod Plans
pub mod Stores
