pub mod Said
pub mod Code
pub mod Push
pub mod Same
pub mod Counts
pub mod Orders
