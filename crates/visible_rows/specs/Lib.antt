pub mod Declaring
pub mod Visible
