pub mod RulesRead
pub mod Steps
