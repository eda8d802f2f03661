pub mod Views
pub mod Faults
pub mod Admitted
pub mod Moves
pub mod Catalogues
pub use Rattle.chunk_model.specs.Changes
pub use Rattle.chunk_model.specs.Requests
pub use Rattle.chunk_model.specs.Placement
