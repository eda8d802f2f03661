pub mod Merged
pub use Rattle.pipeline_eval.specs.Rows
pub use Rattle.pipeline_lang.specs.Halves
