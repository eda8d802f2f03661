pub mod Chains
pub mod Puts
pub mod Rows
pub mod SpanLists
pub mod Edges
pub mod Places
pub mod Latest
pub mod Walk
