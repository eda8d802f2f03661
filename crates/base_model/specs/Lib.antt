pub mod Names
pub mod Times
pub mod Identities
pub mod Errors
pub mod Refusals
pub mod ReplyParts
pub mod SampleReplies
