pub mod Words
pub mod Declarations
pub mod Orders
pub mod Outline
pub mod Printed
pub mod References
pub mod Subjects
