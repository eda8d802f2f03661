pub mod Lists
pub mod Stores
pub mod LegalHistories
pub mod Noted
pub mod Collections
pub mod Keyed
pub mod Versions
pub mod Merged
