pub mod Checked
pub mod Rules
pub mod Headers
pub mod Image
pub mod Offset
