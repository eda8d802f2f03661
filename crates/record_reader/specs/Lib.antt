pub mod RecordReaders
pub mod Decided
