mod Follows
mod Past
