pub mod Prelude
pub mod TextLemmas
pub mod PieceLemmas
