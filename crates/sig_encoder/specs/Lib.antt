pub mod Run
pub mod Items
pub mod Lengths
pub mod Written
pub mod Heads
pub mod Rows
pub mod Same
