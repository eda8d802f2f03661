pub mod Booleans
pub mod Joined
pub mod Lengths
pub mod Parts
pub mod WalkEnds
pub mod Walks
pub mod OneDocument
mod Sample
