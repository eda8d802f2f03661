pub mod FieldLists
pub mod Parts
pub mod Walks
