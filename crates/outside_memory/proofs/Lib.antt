pub mod Parts
pub mod Crashes
