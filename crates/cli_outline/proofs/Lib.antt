pub mod DeclarationLemmas
pub mod Prelude
pub mod PrintedLemmas
mod ChosenLemmas
mod OrderLemmas
mod SubjectLemmas
