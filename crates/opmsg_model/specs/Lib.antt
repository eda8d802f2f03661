pub mod Messages
pub mod Sections
pub mod Requests
pub mod Outline
pub mod Frames
pub mod Replies
pub mod SampleMessages
pub mod MessageSizes
