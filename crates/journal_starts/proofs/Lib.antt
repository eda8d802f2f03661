pub mod OfPlaces
pub mod Restarted
pub mod Begun
pub mod Readings
pub mod Starts
pub mod OneReading
