mod FlagLemmas
pub mod HeadLemmas
mod Prelude
