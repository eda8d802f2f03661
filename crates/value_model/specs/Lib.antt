pub mod Order
pub mod Keys
pub use Rattle.bson_model.specs.Tree
