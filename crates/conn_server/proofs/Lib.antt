pub mod Asked
pub mod Exchanged
pub mod Framed
pub mod Serving
pub mod Shown
pub mod Taken
pub mod Told
pub mod Written
