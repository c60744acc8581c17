pub mod AttributeLemmas
pub mod OfFiles
pub mod Prelude
