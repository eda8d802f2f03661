pub mod Tests
pub mod Names
pub mod Documents
pub mod Again
pub mod TablesAgain
pub mod Items
pub mod Held
