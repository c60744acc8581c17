pub mod Codes
pub mod Rule
pub mod Fields
pub mod Prefix
pub mod Limit
pub mod Number
pub mod Packed
pub mod Offsets
