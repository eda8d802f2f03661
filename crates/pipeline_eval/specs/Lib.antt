pub mod Evals
pub mod Keyed
pub mod Rows
pub mod Tops
pub use Rattle.pipeline_lang.specs.View
pub use Rattle.pipeline_model.specs.Lengths
pub use Rattle.pipeline_model.specs.Runs
pub use Rattle.pipeline_model.specs.Stages
