pub mod HalvesTold
pub mod UpsertedKeys
pub mod Planned
pub mod Writing
pub mod Serving
pub mod Lacks
