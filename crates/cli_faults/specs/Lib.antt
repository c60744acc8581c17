pub mod Escaped
pub mod FileErrors
pub mod Hexadecimal
pub mod Status
pub mod Texts
pub mod Stops
