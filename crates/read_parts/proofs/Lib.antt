pub mod Come
mod Gathered
mod Owners
