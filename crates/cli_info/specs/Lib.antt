pub mod Attributes
pub mod Identities
pub mod InfoLines
pub mod Resources
