pub mod Words
pub mod Texts
pub mod Parts
pub mod Layouts
pub mod Shown
