mod FewNodes
pub mod Lists
mod OwnNames
mod Unstarted
