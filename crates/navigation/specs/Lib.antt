pub mod Keyed
pub mod Linked
pub mod Maps
pub mod Nesting
pub mod Owners
pub mod Starts
