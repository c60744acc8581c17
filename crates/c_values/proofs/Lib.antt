pub mod CellLemmas
pub mod CopyLemmas
mod ItemLemmas
pub mod OneLemmas
pub mod Prelude
pub mod ReasonLemmas
pub mod RefusedLemmas
pub mod RowLemmas
pub mod StepLemmas
