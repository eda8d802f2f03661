pub mod Cuts
pub use Rattle.pipeline_lang.specs.Halves
pub use Rattle.pipeline_lang.specs.View
pub use Rattle.pipeline_model.specs.Split
