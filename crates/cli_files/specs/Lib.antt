pub mod Checked
pub mod Checks
pub mod Heads
pub mod Hints
pub mod Read
pub mod Stopped
