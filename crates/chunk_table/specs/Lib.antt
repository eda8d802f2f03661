pub mod Code
pub mod VerdictMeanings
pub mod Meanings
pub mod Whole
pub mod Copies
pub mod Shards
pub use Rattle.chunk_model.specs.Tables
pub use Rattle.chunk_model.specs.Verdicts
