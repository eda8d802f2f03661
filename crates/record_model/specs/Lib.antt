pub mod Moves
pub mod Records
pub mod PartFormat
pub mod MoveFormat
pub mod RecordFormat
pub mod RecordContents
pub mod SampleRecords
