pub mod Folds
pub mod MentionLemmas
pub mod StringLemmas
pub mod WordLemmas
