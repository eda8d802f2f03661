pub mod Candidates
pub mod Elemental
pub mod Operands
pub mod ReadLoops
pub mod Searches
pub mod Views
