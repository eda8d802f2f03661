pub mod Code
pub mod RuleReading
pub mod View
