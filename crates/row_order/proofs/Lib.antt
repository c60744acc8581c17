pub mod Prelude
pub mod Starts
pub mod Verdicts
