pub mod Changed
pub mod Fills
pub mod Filled
pub mod Givings
pub use Rattle.move_model.specs.Sources
pub use Rattle.move_model.specs.Batches
pub use Rattle.mvcc_collection.specs.Present
