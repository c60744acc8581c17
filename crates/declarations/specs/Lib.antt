pub mod Declarations
pub mod Descriptors
