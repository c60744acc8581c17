pub mod NoHelp
pub mod KnownNames
pub mod Prelude
pub mod Readings
