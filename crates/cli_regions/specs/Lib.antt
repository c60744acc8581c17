pub mod Regions
pub mod Headers
pub mod Files
pub mod Kept
