pub mod Code
pub mod Bounds
pub mod Spans
pub use Rattle.value_model.specs.Keys
pub use Rattle.value_model.specs.Order
