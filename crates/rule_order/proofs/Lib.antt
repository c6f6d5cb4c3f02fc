mod AnyRules
pub mod BookLemmas
mod EntryLemmas
mod HeadingLemmas
mod KeyLemmas
mod ListedApart
mod ListingLemmas
mod Renumbering
mod StandardBooks
mod Uniqueness
