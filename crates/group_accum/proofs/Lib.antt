pub mod Entries
pub mod OwnRows
pub mod PartLoops
pub mod PartsRead
pub mod RowCopies
pub mod RowBytes
pub mod Steps
pub mod TakenIn
