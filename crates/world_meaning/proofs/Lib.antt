pub mod Options
pub mod Chains
pub mod Climbs
pub mod Sights
pub mod Placings
pub mod Ends
pub mod Digits
