pub mod Conversations
pub mod Talks
pub use Rattle.node_cell.specs.Courses
pub use Rattle.node_cell.specs.Standing
