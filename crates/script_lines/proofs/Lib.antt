pub mod Cuts
pub mod KindTexts
pub mod Reading
