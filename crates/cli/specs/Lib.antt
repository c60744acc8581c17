pub mod Columns
pub mod Runs
pub mod Tasks
