pub mod Gives
pub mod LongForms
