pub mod ImageLemmas
pub mod OffsetLemmas
pub mod Prelude
pub mod SectionLemmas
