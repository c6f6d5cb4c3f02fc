mod Breaks
mod Counted
mod Headed
pub mod Looked
pub mod Lows
mod Named
mod Once
mod OneAnswer
mod OneHead
mod OneRule
pub mod Present
mod ReadOn
mod ReadRules
mod Rebuilt
mod Stated
mod Subjects
mod Told
mod Whole
