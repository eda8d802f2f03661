pub mod Sources
pub mod Batches
pub mod Recipients
pub mod Copies
pub mod SampleMoves
