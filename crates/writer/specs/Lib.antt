pub mod Counted
pub mod Failures
pub mod Outlined
pub mod Planned
pub mod Errors
pub mod Prepared
