pub mod Files
pub mod ModelReads
pub mod Parts
pub mod Prelude
pub mod SourceAt
pub mod SignatureLemmas
pub mod SharedLemmas
pub mod ColumnLemmas
