pub mod Cursors
pub mod Keys
pub mod Batches
pub mod Relation
pub mod Ends
pub mod Progress
pub mod Limits
