pub mod ExplanationLemmas
pub mod Prelude
pub mod TypeLemmas
