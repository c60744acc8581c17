pub mod ChosenLemmas
pub mod NumbersRead
mod PathLemmas
pub mod Prelude
mod RefLemmas
mod RunLemmas
pub mod TypeNames
