mod Copied
mod FullNames
mod Judged
mod Named
mod OnlyIds
pub mod Rulings
mod Sessions
