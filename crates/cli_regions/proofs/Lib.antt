pub mod Prelude
pub mod SearchLemmas
pub mod HeaderLemmas
