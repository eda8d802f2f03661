pub mod Cursors
pub mod Shelves
