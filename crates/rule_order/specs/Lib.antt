pub mod Books
pub mod Entries
pub mod Handing
pub mod Headings
pub mod KeyLists
pub mod Keys
pub mod Listings
pub mod OrderLaws
