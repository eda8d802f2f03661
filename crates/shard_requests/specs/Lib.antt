pub mod Asks
pub mod Halves
pub mod EntryRecords
pub mod Results
pub mod Standings
