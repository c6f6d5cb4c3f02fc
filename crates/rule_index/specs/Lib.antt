pub mod Buckets
pub mod Classes
pub mod Walks
