pub mod Coding
pub mod Emitted
pub mod Growing
pub mod Laws
pub mod Origins
pub mod Strings
pub mod Tables
