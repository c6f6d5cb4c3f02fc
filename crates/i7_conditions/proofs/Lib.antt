mod Alone
pub mod Asked
mod Chains
mod Columns
pub mod Conjoined
pub mod FirstParts
pub mod Counting
pub mod Cutting
pub mod Described
mod Done
mod Kept
mod Leveled
pub mod Listing
mod Long
mod Nested
pub mod Once
pub mod Parted
pub mod Predicated
mod Questions
pub mod Readings
mod Runs
mod Stacks
mod Stopped
pub mod Valued
