pub mod EqualBlobs
pub mod FirstByte
pub mod BlobPoolView
pub mod GuidPoolView
pub mod HeapPlanView
pub mod UserEntries
pub mod UserHeap
pub mod Windows
