pub mod Chosen
pub mod Names
pub mod Numbers
pub mod Orders
pub mod Paths
pub mod Refs
pub mod Shown
pub mod Subjects
