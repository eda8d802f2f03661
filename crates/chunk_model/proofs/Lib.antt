pub mod FirstTables
pub mod OwnTables
