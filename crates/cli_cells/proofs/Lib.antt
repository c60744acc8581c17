pub mod PartLemmas
pub mod Prelude
pub mod ReadLemmas
