pub mod Replies
pub mod OpenNames
