pub mod Words
pub mod Entries
pub mod UserStrings
pub mod Kept
pub mod Where
pub mod Lines
pub mod Located
