pub use Rattle.chunk_model.specs.Changes
