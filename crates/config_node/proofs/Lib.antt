mod Copies
mod Planned
mod Plans
mod Ready
mod Rows
