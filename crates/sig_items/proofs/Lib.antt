pub mod Joins
pub mod Leading
pub mod Counts
pub mod Arms
pub mod Heads
pub mod Prelude
pub mod Stacks
pub mod ItemBytes
