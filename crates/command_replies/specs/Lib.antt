pub mod AnswerMeanings
pub mod Cursors
pub mod Errors
pub mod Kinds
pub mod Refusals
pub mod Upserts
