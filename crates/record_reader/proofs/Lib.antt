pub mod MovesAgain
pub mod RecordsAgain
pub mod Held
pub mod Orders
