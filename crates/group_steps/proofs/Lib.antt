pub mod Chains
pub mod Inputs
