pub mod Bytes
pub mod Matching
pub mod Slots
pub mod Embedded
pub mod Planned
pub mod Errors
