pub mod Texts
pub mod Names
pub mod Lines
pub mod Shown
pub mod Printed
