pub mod ClassLemmas
pub mod WalkLemmas
