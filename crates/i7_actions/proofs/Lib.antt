pub mod Chosen
mod Followed
pub mod Found
pub mod Once
mod Refused
mod Trying
