mod Controls
mod BadPlaces
mod Runs
mod Folding
mod Returns
mod Classes
mod Quotes
mod Comments
mod Scanning
mod Cutting
mod Depths
mod Verdicts
mod Readings
mod Placing
mod Joining
pub mod LawLemmas
mod FoldingLaws
mod Lines
mod Totality
pub mod Rising
mod RisingLines
