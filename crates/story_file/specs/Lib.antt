pub mod ActionNumbers
pub mod Compilations
pub mod Lines
pub mod LongOnes
pub mod Rules
pub mod Meanings
pub mod Texts
pub mod WorkedRows
