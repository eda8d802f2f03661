mod Alike
mod Asked
mod Middles
mod MoreRules
mod Ordered
mod Sequences
mod Sessions
mod WordRules
