pub mod Answered
pub mod Evaluated
pub mod FirstRows
pub mod Loops
pub mod Sifted
pub mod Sorts
