pub mod OffsetLemmas
pub mod Prelude
