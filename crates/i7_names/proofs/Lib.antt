pub mod Claimed
pub mod Present
pub mod SmallNames
pub mod Standings
