pub mod Deliveries
pub mod Weights
