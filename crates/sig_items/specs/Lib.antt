pub mod ItemParts
pub mod ItemsOf
pub mod Positions
pub mod Steps
