mod Parting
mod Reaching
pub mod Sound
