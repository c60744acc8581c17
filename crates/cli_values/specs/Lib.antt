pub mod Constants
pub mod Actions
