pub mod BlobLemmas
pub mod GuidLemmas
pub mod BlobPlanLemmas
pub mod FirstsLemmas
pub mod GuidPlanLemmas
pub mod BytesLemmas
pub mod Prelude
pub mod UserHeapLemmas
mod EntryLemmas
mod WindowLemmas
