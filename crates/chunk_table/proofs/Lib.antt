pub mod Chunks
pub mod Covers
pub mod Halves
pub mod Copies
pub mod AfterChanges
pub mod ShardPlaces
