pub mod Asks
pub mod Plans
pub mod State
pub mod StepPlans
pub mod Told
