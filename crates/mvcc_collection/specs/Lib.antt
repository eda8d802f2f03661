pub mod Chains
pub mod View
pub mod Places
pub mod Edges
pub mod Collections
pub use Rattle.history_model.specs.Documents
pub use Rattle.history_model.specs.Versions
pub mod Present
