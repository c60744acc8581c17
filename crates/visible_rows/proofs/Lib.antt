mod DescribedLemmas
pub mod OuterLemmas
mod OwnerLemmas
pub mod Prelude
mod ResultLemmas
mod TypeLemmas
