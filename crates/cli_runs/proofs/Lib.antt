pub mod Prelude
pub mod Reporting
pub mod Running
