pub mod BlobLemmas
pub mod EntryLemmas
pub mod GuidLemmas
pub mod GuidTextLemmas
mod PaddingLemmas
pub mod Prelude
pub mod TextLemmas
pub mod UserLemmas
pub mod WholeLemmas
