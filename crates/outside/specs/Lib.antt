pub mod Causes
pub mod Disks
pub mod Logs
pub mod Notes
pub mod Streams
pub mod Devices
