mod Opened
mod Parts
mod Places
