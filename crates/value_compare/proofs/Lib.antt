pub mod Turned
pub use Rattle.value_model.proofs.Flat
pub use Rattle.value_model.proofs.Spans
