mod Asking
mod Described
mod Given
mod Nouned
mod Once
mod Placed
pub mod Present
