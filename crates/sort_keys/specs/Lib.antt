pub mod Code
pub mod FieldReading
pub mod FirstPart
pub mod View
