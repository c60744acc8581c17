pub mod Words
pub mod Found
pub mod Kept
pub mod Flags
pub mod Values
