mod Counted
mod Joint
mod Places
mod Refusing
mod Times
