pub mod Takings
pub mod Applied
pub use Rattle.move_model.specs.Recipients
pub use Rattle.move_model.specs.Sources
pub use Rattle.move_model.specs.Batches
pub use Rattle.mvcc_collection.specs.Collections
