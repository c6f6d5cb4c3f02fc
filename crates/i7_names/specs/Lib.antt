pub mod Claimed
pub mod Known
pub mod Meant
pub mod Numbering
pub mod Numbers
pub mod PluralNames
pub mod SourceNames
pub mod There
