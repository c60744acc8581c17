pub mod Words
pub mod Budget
pub mod Compared
pub mod ComparedLines
pub mod Embedded
pub mod Rewritten
pub mod Runs
