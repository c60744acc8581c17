pub mod Printing
pub mod Reports
pub mod Runs
