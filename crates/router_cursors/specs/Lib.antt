pub mod Numbers
pub mod Marks
pub mod CursorLists
pub mod Closing
