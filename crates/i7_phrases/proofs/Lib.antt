mod Ahead
mod Changed
mod Drafted
mod Once
pub mod Open
mod Opened
mod Steps
mod Substituted
