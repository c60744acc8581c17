mod PartLemmas
mod ElementLemmas
mod Prelude
mod WalkLemmas
mod StepLemmas
mod LengthLemmas
pub mod DescriptorPartLemmas
pub mod FormLemmas
pub mod AgainLemmas
pub mod DescriptorPrelude
